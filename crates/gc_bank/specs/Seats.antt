-- The seats of banks.
use Rattle.std.specs.Prelude.{◌≡◌, ℕ, List, [], slice_get, MatchOption}
use Rattle.gc_rounds.specs.declared.view.Position.{Position}
use Rattle.gc_rounds.specs.declared.view.Position.TheVariants.{Outside, Inside, Passing}
use Rattle.gc_gates.specs.declared.view.Hand.TheVariants.{Empty}
use Rattle.gc_gates.specs.Places.{IsGatePlace}
use Rattle.gc_gates.specs.Layout.{two_banks}
use Rattle.gc_rounds.specs.Places.{IsSamePlace}
use Rattle.gc_job.specs.Job.{JobParts}
use Rattle.gc_bank.specs.Rounds.{gates_of_each}
use Rattle.gc_bank.specs.Views.{Seen}
use Rattle.gc_bank.specs.declared.seat.BankSeat.{BankSeat}
use Rattle.gc_bank.specs.declared.seat.Banks.{Banks}

module _ {A B C : Type 0} where
  -- what a seat knows and has done
  abbrev pub view : BankSeat B A C → Seen
  view seat = seat.place.me.0

  -- the jobs that banks serve
  abbrev pub jobs_on : Banks B A C → List JobParts
  jobs_on banks = banks.jobs.now

  -- how many seats they have
  abbrev pub seats_on : Banks B A C → ℕ
  seats_on banks = banks.seats

  -- The seat belongs to the banks.
  abbrev pub IsSeatOf : Banks B A C → BankSeat B A C → Type 0
  IsSeatOf banks seat =
      IsGatePlace two_banks gates_of_each banks.board.table.shared.table_id
      banks.board.table.shared.key
      seat.place

  -- It is the same seat.
  abbrev pub IsSameSeat : BankSeat B A C → BankSeat B A C → Type 0
  IsSameSeat old new = IsSamePlace old.place new.place

-- the round that a seat is inside
abbrev pub round_in : Position → ℕ
round_in Outside = 0
round_in (Inside r) = r
round_in (Passing b) = 0

abbrev pub seat_round : Seen → ℕ
seat_round v = round_in v.position

-- The seat is inside a round.
abbrev pub IsInside : Seen → Type 0
IsInside v = v.position ≡ Inside (seat_round v)

-- The round that the seat is inside has a job, of which this holds.
abbrev pub InRound : List JobParts → Seen → (JobParts → Type 0) → Type 0
InRound jobs v holds = MatchOption (slice_get jobs (seat_round v)) ⊥ holds

-- A seat that has done nothing.
pub record IsNew (v : Seen) : Type 0 where
  pub position : v.position ≡ Outside
  pub hand : v.inner.hand ≡ Empty
  pub made : v.inner.made ≡ []
  pub known : v.inner.known ≡ []
  pub steps : v.steps ≡ []
