use Rattle.std.proofs.Common.{arith}
use Rattle.gc_store.proofs.CountLemmas.{ClaimsAll-count}
use Rattle.gc_store.proofs.store.Store.claim_from.Goals as goal

pub invariant_of-self : goal.invariant_of-self
invariant_of-self g c =
    omega (arith, c.self.invariant, ClaimsAll-count _ _ _ c.claim_some.ensures.claims)
