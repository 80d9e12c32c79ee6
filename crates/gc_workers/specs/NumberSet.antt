-- Sets of numbers, as bits in words.
use Rattle.std.specs.Prelude.{◌≡◌, ◌≢◌, ℕ, ◌/◌, ◌%◌, ◌<◌, ◌⊎◌, ◌↔◌, List, length, slice_index_or}
use Rattle.std.specs.Int.{bit_at}

-- Number i is in the set: its bit is bit i % 64 of word i / 64.
abbrev pub Has : List ℕ → ℕ → Type 0
Has words i = bit_at (slice_index_or words (i / 64) 0) (i % 64) ≡ 1

-- The second set has number i, and of other numbers those that the first has.
pub record Adds (old : List ℕ) (i : ℕ) (new : List ℕ) : Type 0 where
  pub count : length new ≡ length old
  pub here : Has new i
  pub others : (j : ℕ) → j ≢ i → Has new j ↔ Has old j
  pub rest : (k : ℕ) → k ≢ i / 64 → slice_index_or new k 0 ≡ slice_index_or old k 0

-- The first set has number i, and the second has all its other numbers.
pub record Removes (old : List ℕ) (i : ℕ) (new : List ℕ) : Type 0 where
  pub count : length new ≡ length old
  pub here : Has old i
  pub gone : ¬ Has new i
  pub others : (j : ℕ) → j ≢ i → Has new j ↔ Has old j
  pub rest : (k : ℕ) → k ≢ i / 64 → slice_index_or new k 0 ≡ slice_index_or old k 0

-- Of the numbers that it has words for, the third set has those of the first and of the second.
pub record Unites (old others new : List ℕ) : Type 0 where
  pub count : length new ≡ length old
  pub both : (i : ℕ) → i / 64 < length old → Has new i ↔ (Has old i ⊎ Has others i)
