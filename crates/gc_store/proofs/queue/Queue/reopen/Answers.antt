use Rattle.std.proofs.Common.{arith}
use Rattle.gc_store.proofs.QueueLemmas.{freed_all}
use Rattle.gc_store.proofs.queue.Queue.reopen.Goals as goal

pub returns-clause-marks : goal.returns-clause-marks
returns-clause-marks g c =
    freed_all _ _ _ (omega (arith, c.loop-gate-test.false)) c.loop-gate.invariant.freed
