-- The workers of an evaluation on many threads.
use Rattle.std.specs.Prelude.{◌≡◌, List, All}
use Rattle.gc_job.specs.ActiveLabels.{gates_of}
use Rattle.gc_eval.specs.declared.seat.EvalBoard.{EvalBoard}
use Rattle.gc_eval.specs.declared.worker.Worker.{Worker}
use Rattle.gc_eval.specs.Seats.{IsSeatOf, job_on}

-- The worker has a seat of this board, and walks over its gates.
pub record IsWorkerOf {A B C : Type 0} (board : EvalBoard B A C)
    (worker : Worker B A C) : Type 0 where
  pub seat_of : IsSeatOf board worker.seat
  pub gates : worker.walk.gates ≡ gates_of (job_on board)

abbrev pub AreWorkersOf : {A B C : Type 0} → EvalBoard B A C → List (Worker B A C) → Type 0
AreWorkersOf board workers = All (IsWorkerOf board) workers
