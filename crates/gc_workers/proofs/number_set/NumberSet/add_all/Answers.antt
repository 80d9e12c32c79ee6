use Rattle.std.proofs.Common.{arith}
use Rattle.gc_workers.proofs.NumberSetLemmas.{unites}
use Rattle.gc_workers.proofs.number_set.NumberSet.add_all.Goals as goal

pub returns : goal.returns
returns g c =
    let is = c.loop-k.invariant in
    rw (← c.self.view_is, ← c.others.view_is) (unites _ _ _ c.loop-k.k is.count
    (omega arith) is.done is.left)
