use Rattle.std.proofs.Common.{arith}
use Rattle.gc_store.proofs.CountLemmas.{finishes-count}
use Rattle.gc_store.proofs.store.Store.finish.Goals as goal

pub invariant_of-self-2 : goal.invariant_of-self-2
invariant_of-self-2 g c =
    let count = finishes-count _ _ _ _ c.in_ok-complete.ensures in
    omega (arith, c.self.invariant, c.raise.ensures.total, count)
