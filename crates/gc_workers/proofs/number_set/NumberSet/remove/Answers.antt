use Rattle.gc_workers.proofs.NumberSetLemmas.{removes}
use Rattle.gc_workers.proofs.number_set.NumberSet.remove.Goals as goal

pub returns : goal.returns
returns g c =
    rw (← c.self.view_is) (removes _ c.args.number _ c.index_mut.ensures.value
    (rw (← c.self.view_is) at c.requires))
