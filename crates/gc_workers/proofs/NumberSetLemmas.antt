-- What putting a number into a set and taking one out keep of the bits in its words.
use Rattle.std.proofs.Common.{◌≡◌, ℕ, ◌*◌, ◌/◌, ◌%◌, ◌^◌, ◌<◌, ◌≤◌, ◌⊎◌, ◌↔◌, min, List, length, length-set, set, get_or, bit_and, bit_or, w64, arith}
use mathlib.Core.Logic.{dite}
use native.Mathlib.Decide.{dec_lt}
use Rattle.std.specs.Int.{bit_at, bit_not}
use Rattle.std.proofs.lemmas.Bool.{cases_eq}
use Rattle.std.proofs.lemmas.Nat.Bits.{bit_at-zero, bit_at-lt, bit_at_or, bit_at_set_same, bit_at_set_other, bit_at_clear_same, bit_at_clear_other}
use Rattle.std.proofs.lemmas.List.{get_or-set_same, get_or-set_other, get_or_read, get_or_past}
use Rattle.gc_workers.specs.NumberSet.{Has, Adds, Removes, Unites}

-- what words of which one is set have, for `grind`
ruleset one_word = (cases_eq, length-set, get_or-set_same, get_or-set_other)

-- the word of a number of the set is one of the words
pub word_within : (words : List ℕ) (i : ℕ) → Has words i → i / 64 < length words
word_within words i has = grind (arith, get_or_past words (i / 64) 0, bit_at-zero)

-- setting the bit of a number, where the number's word was `old`
pub adds : (words : List ℕ) (i old : ℕ) → i / 64 < length words → old ≡ get_or words (i / 64) old
    → Adds words i (set words (i / 64) (bit_or old (1 * 2 ^ (i % 64) % 2 ^ 64)))
adds words i old within read =
    let was = get_or_read words (i / 64) old within read 0 in
    grind (arith, one_word, bit_at_set_same w64, bit_at_set_other w64)

-- clearing it
pub removes : (words : List ℕ) (i old : ℕ) → old ≡ get_or words (i / 64) old → Has words i
    → Removes words i (set words (i / 64) (bit_and old (bit_not w64 (1 * 2 ^ (i % 64) % 2 ^ 64))))
removes words i old read has =
    let within = word_within words i has in
    let was = get_or_read words (i / 64) old within read 0 in
    grind (arith, one_word, bit_at_clear_same w64, bit_at_clear_other w64)

-- a bit of two words in one
bit_of_both : (a b i : ℕ) → (bit_at (bit_or a b) i ≡ 1) ↔ ((bit_at a i ≡ 1) ⊎ (bit_at b i ≡ 1))
bit_of_both a b i = grind (arith, bit_at_or a b i, bit_at-lt a i, bit_at-lt b i, cases_eq)

-- each word of the first set has its bits and those of the second, as far as the second has words
pub unites : (old others new : List ℕ) (end : ℕ) → length new ≡ length old
    → end ≡ min (length old) (length others)
    → ((k : ℕ) → k < end → get_or new k 0 ≡ bit_or (get_or old k 0) (get_or others k 0))
    → ((k : ℕ) → end ≤ k → get_or new k 0 ≡ get_or old k 0) → Unites old others new
unites old others new end count is done left = record {
  count = count;
  both = λ i within. dite (dec_lt (i / 64) end)
      (λ yes. rw (done (i / 64) yes)
      (bit_of_both (get_or old (i / 64) 0) (get_or others (i / 64) 0) (i % 64)))
      (λ no. let past = get_or_past others (i / 64) 0 in
      grind (arith, left (i / 64), past, bit_at-zero, cases_eq));
}
