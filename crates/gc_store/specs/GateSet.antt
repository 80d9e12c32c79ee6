-- Sets of gates, and the words of them that have a gate.
use Rattle.std.specs.Prelude.{◌≡◌, ℕ, ◌*◌, ◌<◌, ◌≤◌, ◌↔◌, List, length, Option, Some, None, slice_index_or}
use Rattle.gc_workers.specs.NumberSet.{Has, Removes}

-- Taking a gate: it is in the set no longer. Where the set has none there is no result, and nothing changes.
abbrev pub TakesOne : List ℕ → Option ℕ → List ℕ → Type 0
TakesOne old None new = ((i : ℕ) → ¬ Has old i) × (new ≡ old)
TakesOne old (Some i) new = Removes old i new

-- `filled` is the set of the words that are not 0, and its own words before `start` are 0.
pub record IsGateSet (words filled : List ℕ) (start : ℕ) : Type 0 where
  pub room : length words ≤ 64 * length filled
  pub filled_at : (k : ℕ) → Has filled k ↔ (0 < slice_index_or words k 0)
  pub passed : (k : ℕ) → k < start → slice_index_or filled k 0 ≡ 0
