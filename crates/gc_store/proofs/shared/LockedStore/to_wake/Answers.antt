use Rattle.std.proofs.Common.{IsTrue, inr, refl}
use Rattle.gc_store.proofs.shared.LockedStore.to_wake.Goals as goal

pub returns-else-may_be_ready-clause-wakes : goal.returns-else-may_be_ready-clause-wakes
returns-else-may_be_ready-clause-wakes g c =
    let some : IsTrue c.has_claimed.result = (let test = c.if-not-has_claimed.false in cc) in
    (refl, inr (c.has_claimed.ensures.0 some, c.requires c.if-may_be_ready.false))
