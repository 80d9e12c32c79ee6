-- What an inner rule owes: that it holds at the opening, and that the steps on the banks' words keep it, and the
-- dealing and joining of seats too.
use Rattle.std.specs.Prelude.{◌≡◌, ℕ, ◌+◌, ◌<◌, ◌≤◌, ◌⊎◌, List, [], ◌∷◌, ◌++◌, length, slice_index, slice_set}
use mathlib.Core.Option.{some}
use lib.ListN.{get_elem?}
use Rattle.gc_rounds.specs.Words.{round_of}
use Rattle.gc_rounds.specs.Steps.{recorded, one_less, newcomer, merged, nobody, starting}
use Rattle.gc_rounds.specs.declared.view.Position.{Position}
use Rattle.gc_rounds.specs.declared.view.Position.TheVariants.{Outside}
use Rattle.gc_rounds.specs.declared.view.Step.{Step}
use Rattle.gc_rounds.specs.declared.view.View.{View}

-- The words at the opening: both banks in their first round, and this many words more, all 0.
pub record IsFresh (size : ℕ) (words : List ℕ) : Type 0 where
  pub long : length words ≡ 2 + size
  pub first : round_of (slice_index words 0) ≡ 0
  pub second : round_of (slice_index words 1) ≡ 1
  pub others : (i : ℕ) → slice_index words (2 + i) ≡ 0

module _ {T I : Type 0} (holds : T → List ℕ → List (View I) → Type 0) where
  -- It holds at the opening.
  abbrev pub Opens : (T → ℕ) → (T → I) → Type 0
  Opens size first =
      (about : T) (jobs seats : ℕ) (words : List ℕ) → IsFresh (size about) words → 0 < seats
      → holds about words (starting jobs seats (first about) ∷ [])

  -- A bank's word changes, its round never back, and a seat that comes or goes is idle.
  abbrev pub Moves : (I → Type 0) → Type 0
  Moves idle =
      (about : T) (words : List ℕ) (views : List (View I)) (id b n : ℕ) (v : View I)
      (position : Position) (s : Step)
      → holds about words views → get_elem? views id ≡ some v → b < 2
      → (position ≡ v.position) ⊎ idle v.inner → round_of (slice_index words b) ≤ round_of n
      → holds about (slice_set words b n) (slice_set views id (recorded v position s))

  -- A seat is dealt.
  abbrev pub DealsSeat : (I → I) → Type 0
  DealsSeat fresh =
      (about : T) (words : List ℕ) (views : List (View I)) (id : ℕ) (v : View I)
      → holds about words views → get_elem? views id ≡ some v → 1 < v.seats
      → holds about words (slice_set views id (one_less v) ++ newcomer v (fresh v.inner) ∷ [])

  -- A seat that is outside and idle is joined to another.
  abbrev pub Joins : (I → Type 0) → (I → I → I) → I → Type 0
  Joins idle both spent =
      (about : T) (words : List ℕ) (views : List (View I)) (id other : ℕ) (v w : View I)
      → holds about words views → get_elem? views id ≡ some v → ¬ (other ≡ id)
      → get_elem? (slice_set views id (merged v w (both v.inner w.inner))) other ≡ some w
      → w.position ≡ Outside → idle w.inner
      → holds about words
      (slice_set (slice_set views id (merged v w (both v.inner w.inner))) other (nobody spent))
