-- The seats of a board.
use Rattle.std.specs.Prelude.{◌≡◌, ℕ, []}
use Rattle.gc_gates.specs.declared.view.Hand.TheVariants.{Empty}
use Rattle.gc_gates.specs.Layout.{one_round}
use Rattle.gc_gates.specs.Places.{IsPlaceInside}
use Rattle.gc_rounds.specs.Places.{IsSamePlace}
use Rattle.gc_job.specs.Job.{JobParts}
use Rattle.gc_job.specs.ActiveLabels.{gates_of}
use Rattle.gc_eval.specs.Views.{Seen}
use Rattle.gc_eval.specs.declared.seat.EvalSeat.{EvalSeat}
use Rattle.gc_eval.specs.declared.seat.EvalBoard.{EvalBoard}

-- what a seat knows and has done
abbrev pub view : {A C : Type 0} → EvalSeat A C → Seen
view seat = seat.place.me.0

-- the job that a board is for
abbrev pub job_on : {A B C : Type 0} → EvalBoard B A C → JobParts
job_on board = board.table.shared.key.about

-- how many seats it has
abbrev pub seats_on : {A B C : Type 0} → EvalBoard B A C → ℕ
seats_on board = board.seats

-- The seat belongs to the board.
abbrev pub IsSeatOf : {A B C : Type 0} → EvalBoard B A C → EvalSeat A C → Type 0
IsSeatOf board seat =
    IsPlaceInside one_round gates_of board.table.shared.table_id board.table.shared.key seat.place 0

-- It is the same seat.
abbrev pub IsSameSeat : {A C : Type 0} → EvalSeat A C → EvalSeat A C → Type 0
IsSameSeat old new = IsSamePlace old.place new.place

-- A seat that has done nothing.
pub record IsNew (v : Seen) : Type 0 where
  pub hand : v.inner.hand ≡ Empty
  pub made : v.inner.made ≡ []
  pub known : v.inner.known ≡ []
  pub steps : v.steps ≡ []
