use Rattle.std.proofs.Common.{refl}
use Rattle.gc_store.proofs.store.Store.into_garbling.Goals as goal

pub returns-in-Err-clause-incomplete : goal.returns-in-Err-clause-incomplete
returns-in-Err-clause-incomplete g c =
    rw (← c.self.view_is, c.in-Err.ensures.incomplete.1) (c.in-Err.ensures.incomplete.0, refl)
