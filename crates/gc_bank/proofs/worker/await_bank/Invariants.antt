use Rattle.gc_bank.proofs.Names.{◌≡◌, Outside, IsSeatOf, view}
use Rattle.gc_bank.proofs.worker.await_bank.Given as goal

abbrev pub invariant-loop-try : goal.invariant-loop-try
invariant-loop-try g l = IsSeatOf l.banks l.seat × ((view l.seat).position ≡ Outside)
