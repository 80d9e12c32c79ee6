use Rattle.gc_eval.specs.Workers.{IsWorkerOf}
use Rattle.gc_eval.proofs.worker.Worker.work.Given as goal

abbrev pub invariant-loop-pass : goal.invariant-loop-pass
invariant-loop-pass g l = IsWorkerOf l.board l.self
