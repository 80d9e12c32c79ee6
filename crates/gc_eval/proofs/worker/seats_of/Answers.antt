use Rattle.gc_eval.proofs.Names.{All-push, all_but_last, all_last, IsSeatOf, IsWorkerOf}
use Rattle.gc_eval.proofs.worker.seats_of.Goals as goal

pub loop-worker-preserved : goal.loop-worker-preserved
loop-worker-preserved g c =
    let board = c.args.board.now in
    let is = c.in-Some.ensures.items in
    let was = c.loop-worker.invariant in record {
      workers = all_but_last _ _ _ is (IsWorkerOf board) was.workers;
      seats = rw c.in_ok-push.ensures.items (All-push (IsSeatOf board) _ _ was.seats
          (all_last _ _ _ is (IsWorkerOf board) was.workers).seat_of);
    }
