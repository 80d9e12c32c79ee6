use Rattle.gc_eval.proofs.Names.{length, All, IsSeatOf, AreWorkersOf}
use Rattle.gc_eval.proofs.worker.seats_of.Given as goal

abbrev pub invariant-loop-worker : goal.invariant-loop-worker
invariant-loop-worker g l = record {
  workers : AreWorkersOf l.board l.workers.items;
  seats : All (IsSeatOf l.board) l.seats.items;
}

abbrev pub decreases-loop-worker : goal.decreases-loop-worker
decreases-loop-worker g l = length l.workers.items
