use Rattle.std.proofs.Common.{length, ap, arith}
use Rattle.gc_workers.proofs.NumberSetLemmas.{adds}
use Rattle.gc_workers.proofs.number_set.NumberSet.insert.Goals as goal

pub returns : goal.returns
returns g c =
    rw (← c.self.view_is) (adds _ c.args.number _
    (omega (arith, ap length c.self.view_is, c.requires)) c.index_mut.ensures.value)
