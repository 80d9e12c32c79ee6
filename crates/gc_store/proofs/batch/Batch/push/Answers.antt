use Rattle.gc_store.proofs.BatchLemmas.{tasks_of-more, all-more}
use Rattle.gc_store.proofs.batch.Batch.push.Goals as goal

pub invariant_of-self : goal.invariant_of-self
invariant_of-self c = rw c.push.ensures.items (all-more _ c.args.task c.self.invariant)

pub returns : goal.returns
returns c = rw (c.push.ensures.items, ← c.self.view_is) (tasks_of-more c.self.inside.tasks.items _)
