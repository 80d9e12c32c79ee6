use Rattle.gc_bank.proofs.Names.{length, All, IsSeatOf, IsNew, view, AreWorkersOf, BankSeat}
use Rattle.gc_bank.proofs.worker.workers_of.Given as goal

abbrev pub invariant-loop-seat : goal.invariant-loop-seat
invariant-loop-seat g l = record {
  seats : All (λ (s : BankSeat _ _ _). IsSeatOf l.banks s × IsNew (view s)) l.seats.items;
  workers : AreWorkersOf l.banks l.workers.items;
}

abbrev pub decreases-loop-seat : goal.decreases-loop-seat
decreases-loop-seat g l = length l.seats.items
