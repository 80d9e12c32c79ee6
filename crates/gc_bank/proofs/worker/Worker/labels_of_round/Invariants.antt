use Rattle.gc_bank.proofs.Names.{Inside, IsWorkerAt}
use Rattle.gc_bank.proofs.worker.Worker.labels_of_round.Given as goal

abbrev pub invariant-loop-pass : goal.invariant-loop-pass
invariant-loop-pass g l = IsWorkerAt l.banks (Inside l.round) l.self
