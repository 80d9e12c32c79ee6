use Rattle.std.proofs.Common.{All}
use Rattle.gc_eval.specs.Seats.{IsSeatOf}
use Rattle.gc_eval_tests.proofs.boards.step_twice.Given as goal

abbrev pub invariant-loop-threads : goal.invariant-loop-threads
invariant-loop-threads g l = All (IsSeatOf l.board) l.seats
