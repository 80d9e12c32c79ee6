-- One board: its seats are in round 0 from the first to the last.
use Rattle.std.specs.Prelude.{◌≡◌, ℕ, ◌<◌, List, [], length}
use mathlib.Core.Option.{some}
use lib.ListN.{get_elem?}
use Rattle.gc_workers.specs.Counts.{total, only}
use Rattle.gc_workers.specs.declared.states.TheConstants.{DONE}
use Rattle.gc_rounds.specs.declared.view.View.{View}
use Rattle.gc_rounds.specs.declared.view.Key.{Key}
use Rattle.gc_rounds.specs.declared.view.Position.TheVariants.{Inside, Outside}
use Rattle.gc_gates.specs.Layout.{one_round}
use Rattle.gc_gates.specs.Gates.{Cell, state_of, first_view, fresh_view}
use Rattle.gc_gates.specs.Pairs.{pairs}
use Rattle.gc_gates.specs.declared.view.GateView.{GateView}
use Rattle.gc_gates.specs.declared.view.Hand.TheVariants.{Empty}

-- The views stand for all seats, and each is in round 0, where it is in one.
pub record Dealt {I : Type 0} (seats : ℕ) (views : List (View I)) : Type 0 where
  pub dealt : total (λ v. v.seats) views ≡ seats
  pub here : (id : ℕ) (v : View I) → get_elem? views id ≡ some v → (r : ℕ) → v.position ≡ Inside r
      → r ≡ 0

module _ {J : Type 0} where
  -- the view at the opening, which stands for all seats
  abbrev pub first_seat : Key J → View (GateView J)
  first_seat key = record {
    jobs = key.jobs;
    all = key.seats;
    seats = key.seats;
    position = Inside 0;
    steps = [];
    inner = first_view key.about;
  }

  -- the seat that is dealt out of a view
  abbrev pub dealt_seat : View (GateView J) → View (GateView J)
  dealt_seat v = record {
    jobs = v.jobs;
    all = v.all;
    seats = 1;
    position = Inside 0;
    steps = [];
    inner = fresh_view v.inner;
  }

  -- a note of what a seat knows
  abbrev pub note_of : View (GateView J) → View (GateView J)
  note_of v = record {
    jobs = v.jobs;
    all = v.all;
    seats = 0;
    position = Outside;
    steps = [];
    inner = record {
      job = v.inner.job;
      hand = Empty;
      made = [];
      known = v.inner.known;
      looks = [];
    };
  }

  -- The words of a board that no seat uses any more, and the gates that were made, each with round 0.
  pub record AtRest (gates : J → ℕ) (right : J → ℕ → ℕ → ℕ → ℕ → Type 0) (job : J)
      (words : List ℕ) (made : List (ℕ × ℕ)) : Type 0 where
    pub long : length words ≡ one_round.size (gates job)
    -- The words of each gate are right.
    pub cells : (g : ℕ) → Cell one_round gates right job words 0 g
    -- A gate was made once where it is DONE, and else never,
    pub mades : (g : ℕ) → pairs 0 g made ≡ only DONE (state_of one_round words 0 g)
    -- and none was made in another round.
    pub only_here : (r g : ℕ) → 0 < r → pairs r g made ≡ 0
