use Rattle.gc_store.proofs.QueueLemmas.{finish_keeps}
use Rattle.gc_store.proofs.queue.Queue.finish.Goals as goal

pub invariant_of-self : goal.invariant_of-self
invariant_of-self g c =
    finish_keeps c.self.invariant c.args.gate (rw (← c.self.view_is) at c.requires)
