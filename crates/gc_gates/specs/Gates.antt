-- The words of gates: of each gate a state word, and the low and the high half of what is found out of it. A state word
-- is the stamp of a state (FREE, IN_HAND or DONE) in a round, and one of an earlier round than its words are in counts
-- as free. Where the words lie, and which round they are in, is the layout's.
use Rattle.std.specs.Prelude.{◌≡◌, ℕ, ◌+◌, ◌%◌, ◌<◌, ◌≤◌, ◌⊎◌, List, [], length, slice_index, Some, None}
use mathlib.Core.Option.{some}
use lib.ListN.{get_elem?}
use Rattle.gc_workers.specs.declared.states.TheConstants.{DONE, FREE, IN_HAND}
use Rattle.gc_rounds.specs.declared.words.TheConstants.{ROUND}
use Rattle.gc_workers.specs.Counts.{total, only}
use Rattle.gc_rounds.specs.Words.{round_of, stamp}
use Rattle.gc_rounds.specs.declared.view.View.{View}
use Rattle.gc_rounds.specs.declared.view.Position.TheVariants.{Inside}
use Rattle.gc_gates.specs.Layout.{Layout}
use Rattle.gc_gates.specs.Pairs.{is_pair, pairs, looked}
use Rattle.gc_gates.specs.declared.view.GateView.{GateView}
use Rattle.gc_gates.specs.declared.view.Hand.{Hand}
use Rattle.gc_gates.specs.declared.view.Hand.TheVariants.{Empty, Has}

-- the state word of gate g in round r
abbrev pub state_of : Layout → List ℕ → ℕ → ℕ → ℕ
state_of l words r g = slice_index words (l.at r g)

-- its low half
abbrev pub low_of : Layout → List ℕ → ℕ → ℕ → ℕ
low_of l words r g = slice_index words (l.at r g + 1)

-- its high half
abbrev pub high_of : Layout → List ℕ → ℕ → ℕ → ℕ
high_of l words r g = slice_index words (l.at r g + 2)

-- 1 where gate g is in hand in round r, and else 0
abbrev pub in_hand : ℕ → ℕ → Hand → ℕ
in_hand r g Empty = 0
in_hand r g (Has k h phase) = is_pair r g (k, h)

-- Each subject says how many gates there are, and which numbers are right, in a round, as half k of a gate: the
-- low half is half 0, the high half is half 1.
module _ {J : Type 0} (l : Layout) (gates : J → ℕ) (right : J → ℕ → ℕ → ℕ → ℕ → Type 0) where
  -- The halves of the gate in hand that are stored are right: the low half from phase 1 on, the high half at phase 2.
  abbrev pub IsHandRight : J → List ℕ → Hand → Type 0
  IsHandRight job words Empty = Unit {0}
  IsHandRight job words (Has r g phase) =
      (0 < phase → right job r g 0 (low_of l words r g))
      × (1 < phase → right job r g 1 (high_of l words r g))

  -- The words of gate g in round r: the state is one of the three, of no later round than the words are in, and where
  -- the gate is done in round r, both halves are right in it.
  pub record Cell (job : J) (words : List ℕ) (r g : ℕ) : Type 0 where
    pub state : state_of l words r g % ROUND < 3
    pub round : round_of (state_of l words r g) ≤ l.now words r
    pub low : state_of l words r g ≡ stamp r DONE → right job r g 0 (low_of l words r g)
    pub high : state_of l words r g ≡ stamp r DONE → right job r g 1 (high_of l words r g)

  -- What a view says of the words is so.
  pub record IsSoundView (job : J) (words : List ℕ) (v : View (GateView J)) : Type 0 where
    pub holding : IsHandRight job words v.inner.hand
    -- A gate in hand is in hand in the round that the seat is inside.
    pub inside : (r g phase : ℕ) → v.inner.hand ≡ Has r g phase → v.position ≡ Inside r
    -- A gate that is known to be done in a round is so, or its words are of a later round.
    pub knows : (r g : ℕ) → 0 < pairs r g v.inner.known → stamp r DONE ≤ state_of l words r g
    -- A state word that a load found in a round is there still, or has gone on to IN_HAND or DONE in that round, or
    -- to a later one.
    pub looks : (r g n : ℕ) → 0 < looked r g n v.inner.looks
        → (r ≤ l.now words r) × ((state_of l words r g ≡ n) ⊎ (stamp r FREE < state_of l words r g))
    -- A view that stands for no seat has nothing in hand and made nothing.
    pub spent : v.seats ≡ 0 → (v.inner.hand ≡ Empty) × (v.inner.made ≡ [])

  -- The rule, between any two atomic steps.
  pub record Sound (job : J) (words : List ℕ) (views : List (View (GateView J))) : Type 0 where
    -- There are the words of the layout.
    pub long : length words ≡ l.size (gates job)
    -- The words of each gate are right.
    pub cells : (r g : ℕ) → Cell job words r g
    -- A gate is IN_HAND in a round where exactly one seat has it in hand in that round, and else none has.
    pub hands : (r g : ℕ)
        → total (λ v. in_hand r g v.inner.hand) views
        ≡ only (stamp r IN_HAND) (state_of l words r g)
    -- A round with a gate is at most once in all made lists together.
    pub once : (r g : ℕ) → total (λ v. pairs r g v.inner.made) views ≤ 1
    -- As long as the state word of a gate is of no later round, the gate is DONE in the round where the pair is in a
    -- made list, and else the pair is in none.
    pub mades : (r g : ℕ) → state_of l words r g < stamp (r + 1) FREE
        → total (λ v. pairs r g v.inner.made) views ≡ only (stamp r DONE) (state_of l words r g)
    -- What each view says is so.
    pub fits : (id : ℕ) (v : View (GateView J)) → get_elem? views id ≡ some v
        → IsSoundView job words v

module _ {J : Type 0} where
  -- what the view knows that stands for all seats at the opening
  abbrev pub first_view : J → GateView J
  first_view job = record { job = Some job; hand = Empty; made = []; known = []; looks = [] }

  -- what a seat knows that is dealt
  abbrev pub fresh_view : GateView J → GateView J
  fresh_view v = record { job = v.job; hand = Empty; made = []; known = []; looks = [] }

  -- what is left of a view that was joined to another
  abbrev pub no_view : GateView J
  no_view = record { job = None; hand = Empty; made = []; known = []; looks = [] }

-- Each round with a gate is at most once in the made list.
abbrev pub IsOnce : List (ℕ × ℕ) → Type 0
IsOnce made = (r g : ℕ) → pairs r g made ≤ 1
