use Rattle.gc_store.proofs.store.Store.is_complete.Goals as goal

pub returns-clause-complete : goal.returns-clause-complete
returns-clause-complete g c = rw (← c.self.view_is) c.is_complete.ensures.complete
