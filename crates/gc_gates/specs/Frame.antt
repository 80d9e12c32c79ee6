-- What a table owes besides the rule of its gates' words.
use Rattle.std.specs.Prelude.{◌≡◌, ℕ, ◌+◌, List, [], ◌∷◌, ◌++◌, slice_set}
use mathlib.Core.Option.{some}
use lib.ListN.{get_elem?}
use Rattle.atomic_table.specs.Table.{State}
use Rattle.gc_workers.specs.Counts.{total}
use Rattle.gc_rounds.specs.Views.{gives, unfair, seals_in}
use Rattle.gc_rounds.specs.declared.view.View.{View}
use Rattle.gc_rounds.specs.declared.view.Key.{Key}
use Rattle.gc_rounds.specs.declared.view.Step.{Step}
use Rattle.gc_rounds.specs.declared.view.Position.TheVariants.{Inside}
use Rattle.gc_gates.specs.Layout.{Layout, IsLayout}
use Rattle.gc_gates.specs.Gates.{Sound}
use Rattle.gc_gates.specs.declared.view.GateView.{GateView}

-- a step whose number is a seat's own matter, and no bank's
abbrev pub IsBeside : Step → Type 0
IsBeside e = ((b : ℕ) → gives b e ≡ 0) × ((k : ℕ) → seals_in k e ≡ 0) × (unfair e ≡ 0)

-- The view w is v after this step, which leaves the seat where it is.
pub record Stepped {I : Type 0} (v w : View I) (e : Step) : Type 0 where
  pub beside : IsBeside e
  pub position : w.position ≡ v.position
  pub all : w.all ≡ v.all
  pub seats : w.seats ≡ v.seats
  pub steps : w.steps ≡ v.steps ++ e ∷ []

module _ {J : Type 0} (l : Layout) (gates : J → ℕ) (right : J → ℕ → ℕ → ℕ → ℕ → Type 0)
    (outer : Key J → List ℕ → List (View (GateView J)) → Type 0)
    (holds : Key J → State ℕ (View (GateView J)) → Type 0) where
  pub record FrameLaw : Type 0 where
    pub layout : IsLayout l
    -- The table's rule is the outer rule, and that of the gates' words.
    pub parts : (key : Key J) (s : State ℕ (View (GateView J))) → holds key s
        → outer key s.words s.views × Sound l gates right key.about s.words s.views
    pub whole : (key : Key J) (s : State ℕ (View (GateView J))) → outer key s.words s.views
        → Sound l gates right key.about s.words s.views → holds key s
    -- A seat that is inside a round sees the words in it.
    pub sees : (key : Key J) (words : List ℕ) (views : List (View (GateView J))) (id r : ℕ)
        (v : View (GateView J)) → outer key words views → get_elem? views id ≡ some v
        → v.position ≡ Inside r → l.now words r ≡ r
    pub dealt : (key : Key J) (words : List ℕ) (views : List (View (GateView J)))
        → outer key words views → total (λ v. v.seats) views ≡ key.seats
    -- A load keeps the outer rule, and so does a write to a gate's word.
    pub loads : (key : Key J) (words : List ℕ) (views : List (View (GateView J))) (id : ℕ)
        (v w : View (GateView J)) (e : Step) → outer key words views
        → get_elem? views id ≡ some v → Stepped v w e → outer key words (slice_set views id w)
    pub writes : (key : Key J) (words : List ℕ) (views : List (View (GateView J)))
        (id r g i n : ℕ) (v w : View (GateView J)) (e : Step) → outer key words views
        → get_elem? views id ≡ some v → Stepped v w e
        → outer key (slice_set words (l.at r g + i) n) (slice_set views id w)
