use Rattle.gc_eval.specs.Seats.{IsSeatOf}
use Rattle.gc_eval_tests.proofs.boards.step_all.Given as goal

abbrev pub invariant-loop-gate : goal.invariant-loop-gate
invariant-loop-gate g l = IsSeatOf l.board l.seat
