use Rattle.gc_bank.specs.Workers.{IsWorkerOf}
use Rattle.gc_bank.proofs.worker.Worker.work.Given as goal

abbrev pub invariant-loop-round : goal.invariant-loop-round
invariant-loop-round g l = IsWorkerOf l.banks l.self
