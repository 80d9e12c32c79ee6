-- What each kind of step does to the view of the seat that steps, and what the seat learns.
use Rattle.std.specs.Prelude.{◌≡◌, ℕ, ◌+◌, ◌%◌, ◌<◌, ◌≤◌, ◌⊎◌, List, [], ◌∷◌, ◌++◌, ◌==◌, if◌then◌else◌, Some}
use Rattle.atomic_table.specs.Table.{Me, Step}
use Rattle.gc_workers.specs.declared.states.TheConstants.{DONE, FREE, IN_HAND}
use Rattle.gc_rounds.specs.declared.words.TheConstants.{ROUND}
use Rattle.gc_workers.specs.Counts.{only}
use Rattle.gc_rounds.specs.Words.{round_of, stamp}
use Rattle.gc_rounds.specs.declared.view.View.{View}
use Rattle.gc_rounds.specs.declared.view.Position.TheVariants.{Inside}
use Rattle.gc_rounds.specs.declared.view.Step.TheVariants.{Load, Store, Claim}
use Rattle.gc_rounds.specs.declared.view.Step as record_step
use Rattle.gc_gates.specs.Pairs.{pairs}
use Rattle.gc_gates.specs.Gates.{in_hand, IsOnce}
use Rattle.gc_gates.specs.Layout.{Layout}
use Rattle.gc_gates.specs.declared.view.GateView.{GateView}
use Rattle.gc_gates.specs.declared.view.Hand.{Hand}
use Rattle.gc_gates.specs.declared.view.Hand.TheVariants.{Empty, Has}

-- a gate that is found DONE in round r is known in it
abbrev pub learnt : List (ℕ × ℕ) → ℕ → ℕ → ℕ → List (ℕ × ℕ)
learnt known r g found = if found == stamp r DONE then (r, g) ∷ known else known

module _ {J : Type 0} where
  -- two views in one, with what the first has in hand
  abbrev pub joined : GateView J → GateView J → GateView J
  joined v w = record {
    job = v.job;
    hand = v.hand;
    made = v.made ++ w.made;
    known = v.known ++ w.known;
    looks = v.looks ++ w.looks;
  }

  -- the view with this hand, made list, known gates and looks, and one step more in its record
  abbrev pub changed : View (GateView J) → Hand → List (ℕ × ℕ) → List (ℕ × ℕ) → List (ℕ × ℕ × ℕ)
      → record_step.Step → View (GateView J)
  changed v hand made known looks s = record {
    jobs = v.jobs;
    all = v.all;
    seats = v.seats;
    position = v.position;
    steps = v.steps ++ s ∷ [];
    inner = record { job = v.inner.job; hand = hand; made = made; known = known; looks = looks };
  }

  -- after a load of the state word of gate g in round r: known, where it was found DONE in the round
  abbrev pub after_state : Layout → View (GateView J) → ℕ → ℕ → ℕ → View (GateView J)
  after_state l v r g found =
      changed v v.inner.hand v.inner.made (learnt v.inner.known r g found)
      ((r, g, found) ∷ v.inner.looks) (Load (l.at r g) found)

  -- after a load of a half
  abbrev pub after_half : View (GateView J) → ℕ → ℕ → View (GateView J)
  after_half v word found =
      changed v v.inner.hand v.inner.made v.inner.known v.inner.looks (Load word found)

  -- after an exchange of the state word of gate g from `old` to IN_HAND in round r: found at `old` the gate is in
  -- hand, found DONE in the round it is known
  abbrev pub after_claim : Layout → View (GateView J) → ℕ → ℕ → ℕ → ℕ → View (GateView J)
  after_claim l v r g old found =
      changed v (if found == old then Has r g 0 else v.inner.hand) v.inner.made
      (learnt v.inner.known r g found) v.inner.looks (Claim (l.at r g) found)

  -- after a half of gate g, the one in hand in round r, is stored, with which this many are
  abbrev pub after_stored : View (GateView J) → ℕ → ℕ → ℕ → ℕ → ℕ → View (GateView J)
  after_stored v r g phase word half =
      changed v (Has r g phase) v.inner.made v.inner.known v.inner.looks (Store word half)

  -- after DONE in round r is stored for gate g, the one in hand: the hand is empty, and the gate made and known
  abbrev pub after_done : Layout → View (GateView J) → ℕ → ℕ → View (GateView J)
  after_done l v r g =
      changed v Empty (v.inner.made ++ (r, g) ∷ []) ((r, g) ∷ v.inner.known) v.inner.looks
      (Store (l.at r g) (stamp r DONE))

  -- What the word found at the state of gate g means to a seat inside round r: it is one of the three states, of the
  -- round or of an earlier one; a known gate is found DONE in the round; and a view that stands for all seats has the
  -- gate in hand where it is found IN_HAND in the round, and made it where it is found DONE in it.
  pub record Finds (v : View (GateView J)) (r g found : ℕ) : Type 0 where
    pub state : found % ROUND < 3
    pub round : round_of found ≤ r
    pub known : 0 < pairs r g v.inner.known → found ≡ stamp r DONE
    pub alone : v.seats ≡ v.all
        → (in_hand r g v.inner.hand ≡ only (stamp r IN_HAND) found)
        × (pairs r g v.inner.made ≡ only (stamp r DONE) found)

  -- Each kind of step, of the seat before, the word found or stored, and the seat after. None takes or gives a slot.
  module _ {S : Type 0} where
    -- a load of a state word
    abbrev pub state_loaded : Layout → Step S → Me S (View (GateView J)) → ℕ
        → Me S (View (GateView J))
        → Type 0
    state_loaded l st m found m' =
        (m'.1 ≡ m.1) × ((r g : ℕ) → m.0.position ≡ Inside r → st.word ≡ l.at r g
        → Finds m.0 r g found × (m'.0 ≡ after_state l m.0 r g found))

    -- a load of the low half of a gate: that of a known gate is right in the round
    abbrev pub low_loaded : Layout → (J → ℕ → ℕ → ℕ → ℕ → Type 0) → Step S
        → Me S (View (GateView J)) → ℕ
        → Me S (View (GateView J)) → Type 0
    low_loaded l right st m found m' =
        (m'.1 ≡ m.1) × (m'.0 ≡ after_half m.0 st.word found)
        × ((r g : ℕ) → m.0.position ≡ Inside r → st.word ≡ l.at r g + 1
        → 0 < pairs r g m.0.inner.known
        → (job : J) → m.0.inner.job ≡ Some job → right job r g 0 found)

    -- a load of the high half
    abbrev pub high_loaded : Layout → (J → ℕ → ℕ → ℕ → ℕ → Type 0) → Step S
        → Me S (View (GateView J)) → ℕ
        → Me S (View (GateView J)) → Type 0
    high_loaded l right st m found m' =
        (m'.1 ≡ m.1) × (m'.0 ≡ after_half m.0 st.word found)
        × ((r g : ℕ) → m.0.position ≡ Inside r → st.word ≡ l.at r g + 2
        → 0 < pairs r g m.0.inner.known
        → (job : J) → m.0.inner.job ≡ Some job → right job r g 1 found)

    -- an exchange of a state word from a free one that a load found
    abbrev pub claimed : Layout → Step S → Me S (View (GateView J)) → ℕ → Me S (View (GateView J))
        → Type 0
    claimed l st m found m' =
        (m'.1 ≡ m.1)
        × ((r g : ℕ) → m.0.position ≡ Inside r → st.word ≡ l.at r g
        → Finds m.0 r g found × ((found ≡ st.first) ⊎ (stamp r FREE < found))
        × (m'.0 ≡ after_claim l m.0 r g st.first found))

    -- a store of a half of the gate in hand
    abbrev pub half_stored : Step S → Me S (View (GateView J)) → ℕ → Me S (View (GateView J))
        → Type 0
    half_stored st m half m' =
        (m'.1 ≡ m.1) × ((r g phase : ℕ) → m.0.inner.hand ≡ Has r g phase
        → m'.0 ≡ after_stored m.0 r g (phase + 1) st.word half)

    -- a store of DONE in the round for the gate in hand
    abbrev pub done_stored : Layout → Step S → Me S (View (GateView J)) → ℕ
        → Me S (View (GateView J))
        → Type 0
    done_stored l st m new m' =
        (m'.1 ≡ m.1) × ((r g phase : ℕ) → m.0.inner.hand ≡ Has r g phase
        → m'.0 ≡ after_done l m.0 r g)

    -- a load of a bank's word from which a view that stands for all seats learns that each pair was made once at most
    abbrev pub once_learnt : Step S → Me S (View (GateView J)) → ℕ → Me S (View (GateView J))
        → Type 0
    once_learnt st m found m' =
        (m'.1 ≡ m.1) × (m'.0 ≡ after_half m.0 st.word found)
        × (m.0.seats ≡ m.0.all → IsOnce m.0.inner.made)
