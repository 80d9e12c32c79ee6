-- Laws of the offset and of the input labels of a seed, for the crates above.
use Rattle.std.proofs.Common.{◌≡◌, ℕ, ◌^◌, ◌<◌, true, List, arith}
use Rattle.std.proofs.lemmas.Nat.{or_lt}
use Rattle.rand_chacha.specs.ChaCha.{ChaCha, key_of}
use Rattle.gc_label.specs.Label.{colour, label_of_bytes}
use Rattle.gc_label.specs.Seed.{label_of_words, label_at, offset_of, input_label_of}
use Rattle.gc_label.proofs.LabelLemmas.{colour_bit_or}

-- the generator of a seed's keystream, about to read word p
abbrev pub generator_at : List ℕ → ℕ → ChaCha
generator_at seed p = record { key = key_of seed; stream = 0; word_pos = p }

-- the colour of an offset is 1
pub colour-offset_of : (seed : List ℕ) → colour (offset_of seed) ≡ true
unfolding offset_of
colour-offset_of seed = colour_bit_or (label_at seed 0)

-- the label of four words is below 2 ^ 128
label_of_words-lt : (a b c d : ℕ) → label_of_words a b c d < 2 ^ 128
unfolding label_of_words label_of_bytes
label_of_words-lt a b c d = omega arith

-- an offset is below 2 ^ 128
pub offset_of-lt : (seed : List ℕ) → offset_of seed < 2 ^ 128
unfolding offset_of label_at
offset_of-lt seed = or_lt 128 (label_at seed 0) (2 ^ 120) (label_of_words-lt _ _ _ _) (omega arith)

-- an input label is below 2 ^ 128
pub input_label_of-lt : (seed : List ℕ) (wire : ℕ) → input_label_of seed wire < 2 ^ 128
unfolding input_label_of label_at
input_label_of-lt seed wire = label_of_words-lt _ _ _ _
