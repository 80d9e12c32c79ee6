use Rattle.std.proofs.Common.{arith}
use Rattle.gc_store.proofs.CountLemmas.{claims-count}
use Rattle.gc_store.proofs.store.Store.claim.Goals as goal

pub invariant_of-self : goal.invariant_of-self
invariant_of-self g c = omega (arith, c.self.invariant, claims-count _ _ _ c.claim.ensures)
