-- Which seats are those of a table with words of gates, and which gates it has words for.
use Rattle.std.specs.Prelude.{◌≡◌, ℕ, ◌<◌, Some}
use Rattle.atomic_table.specs.Seated.{TableId}
use Rattle.atomic_table.specs.declared.shared.Seat.{Seat}
use Rattle.gc_rounds.specs.declared.view.View.{View}
use Rattle.gc_rounds.specs.declared.view.Key.{Key}
use Rattle.gc_rounds.specs.declared.view.Position.TheVariants.{Inside}
use Rattle.gc_gates.specs.Layout.{Layout}
use Rattle.gc_gates.specs.declared.view.GateView.{GateView}

module _ {J S : Type 0} where
  -- The seat is one of this table, which has the words of this subject, and its view is of this subject and of this
  -- many jobs and seats.
  pub record IsGatePlace (l : Layout) (gates : J → ℕ) (table : TableId) (key : Key J)
      (seat : Seat S (View (GateView J))) : Type 0 where
    pub words : table.words ≡ l.size (gates key.about)
    pub slots : table.slots ≡ 0
    pub table_id : seat.table_id ≡ table
    pub jobs : seat.me.0.jobs ≡ key.jobs
    pub whole : seat.me.0.all ≡ key.seats
    pub about : seat.me.0.inner.job ≡ Some key.about

  -- It is, and it is inside the round.
  pub record IsPlaceInside (l : Layout) (gates : J → ℕ) (table : TableId) (key : Key J)
      (seat : Seat S (View (GateView J))) (round : ℕ) : Type 0 where
    pub place : IsGatePlace l gates table key seat
    pub inside : seat.me.0.position ≡ Inside round

  -- It is, and there is such a gate.
  pub record IsPlaceAt (l : Layout) (gates : J → ℕ) (table : TableId) (key : Key J)
      (seat : Seat S (View (GateView J))) (round gate : ℕ) : Type 0 where
    pub place : IsGatePlace l gates table key seat
    pub inside : seat.me.0.position ≡ Inside round
    pub exists : gate < gates key.about
