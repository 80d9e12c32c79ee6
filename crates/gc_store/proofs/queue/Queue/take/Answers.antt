use Rattle.std.proofs.Common.{arith}
use Rattle.gc_store.proofs.QueueLemmas.{take_keeps, busy_fits}
use Rattle.gc_store.proofs.queue.Queue.take.Goals as goal

pub overflow_add-self : goal.overflow_add-self
overflow_add-self g c = omega (arith, busy_fits c.self.invariant _ _ c.in_ok-gate.ensures)

pub invariant_of-self-2 : goal.invariant_of-self-2
invariant_of-self-2 g c = take_keeps c.self.invariant _ _ c.in_ok-gate.ensures
