use Rattle.gc_store.proofs.BatchLemmas.{still_all, taken}
use Rattle.gc_store.proofs.batch.Batch.pop.Goals as goal

pub invariant_of-self-2 : goal.invariant_of-self-2
invariant_of-self-2 c = still_all _ _ _ c.in_ok-pop.ensures.items c.self.invariant

pub returns : goal.returns
returns c = taken _ _ _ c.in_ok-pop.ensures.items c.self.invariant _ c.self.view_is
