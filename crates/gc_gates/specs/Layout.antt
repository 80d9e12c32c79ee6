-- Where the words of gates lie in a table, and which round they are in.
use Rattle.std.specs.Prelude.{◌≡◌, ℕ, ◌+◌, ◌*◌, ◌<◌, List, slice_index, slice_set}
use Rattle.gc_rounds.specs.Words.{round_of, bank_of}

pub record Layout : Type 0 where
  -- where the state word of a gate is in a round; its low and its high half follow
  pub at : ℕ → ℕ → ℕ
  -- how many words a table has for this many gates
  pub size : ℕ → ℕ
  -- the round that the words of a round's gates are in
  pub now : List ℕ → ℕ → ℕ

-- the words of two banks: word b is that of bank b, and says its round; behind them each gate has three words in bank
-- 0, and three in bank 1
abbrev pub two_banks : Layout
two_banks = record {
  at = λ r g. 2 + 6 * g + 3 * bank_of r;
  size = λ gates. 2 + 6 * gates;
  now = λ words r. round_of (slice_index words (bank_of r));
}

-- the words of one board, which is in round 0 for good
abbrev pub one_round : Layout
one_round = record { at = λ r g. 3 * g; size = λ gates. 3 * gates + 1; now = λ words r. 0 }

-- What a layout owes.
pub record IsLayout (l : Layout) : Type 0 where
  -- Two gates share all their words, or none.
  pub apart : (r g k h i j : ℕ) → i < 3 → j < 3 → l.at k h + j ≡ l.at r g + i
      → (j ≡ i) × (h ≡ g) × (l.at k h ≡ l.at r g)
  -- Rounds that share words are in one round.
  pub shared : (words : List ℕ) (r g k h : ℕ) → l.at k h ≡ l.at r g → l.now words k ≡ l.now words r
  -- The table has the words of each gate.
  pub within : (gates r g : ℕ) → g < gates → l.at r g + 2 < l.size gates
  -- A write to a word of a gate changes no round.
  pub stays : (words : List ℕ) (r g i n k : ℕ)
      → l.now (slice_set words (l.at r g + i) n) k ≡ l.now words k
