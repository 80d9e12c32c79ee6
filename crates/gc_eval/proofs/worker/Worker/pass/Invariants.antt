use Rattle.gc_steps.specs.Walks.{groups_left}
use Rattle.gc_eval.specs.Workers.{IsWorkerOf}
use Rattle.gc_eval.proofs.worker.Worker.pass.Given as goal

abbrev pub invariant-loop-group : goal.invariant-loop-group
invariant-loop-group g l = IsWorkerOf l.board l.self

abbrev pub decreases-loop-group : goal.decreases-loop-group
decreases-loop-group g l = groups_left l.self.walk
