use Rattle.gc_bank.proofs.Names.{Inside, groups_left, IsWorkerAt}
use Rattle.gc_bank.proofs.worker.Worker.pass.Given as goal

abbrev pub invariant-loop-group : goal.invariant-loop-group
invariant-loop-group g l = IsWorkerAt l.banks (Inside l.round) l.self

abbrev pub decreases-loop-group : goal.decreases-loop-group
decreases-loop-group g l = groups_left l.self.walk
