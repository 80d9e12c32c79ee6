use Rattle.gc_eval.proofs.Names.{length, All, IsSeatOf, IsNew, view, AreWorkersOf, EvalSeat}
use Rattle.gc_eval.proofs.worker.workers_of.Given as goal

abbrev pub invariant-loop-seat : goal.invariant-loop-seat
invariant-loop-seat g l = record {
  seats : All (λ (s : EvalSeat _ _). IsSeatOf l.board s × IsNew (view s)) l.seats.items;
  workers : AreWorkersOf l.board l.workers.items;
}

abbrev pub decreases-loop-seat : goal.decreases-loop-seat
decreases-loop-seat g l = length l.seats.items
