use Rattle.gc_bank.specs.Seats.{IsSeatOf}
use Rattle.gc_eval_tests.proofs.banks.first_other.Given as goal

abbrev pub invariant-loop-who : goal.invariant-loop-who
invariant-loop-who g l = IsSeatOf l.banks l.seats.one × IsSeatOf l.banks l.seats.two
