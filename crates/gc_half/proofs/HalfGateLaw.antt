-- The law of one AND gate: its rows take active labels of two bits to the active label of their conjunction.
use Rattle.gc_half.proofs.Names.{◌≡◌, ℕ, Bool, true, cond, not, ◌&&◌, arith, nat_tests, ◌⊕◌, colour, times, xor, encode, hash}
use Rattle.std.specs.Int.{bit_at}
use Rattle.std.proofs.lemmas.Nat.Bits.{bit_at_xor, same_from_bits}
use lib.Bits.{xor_assoc, xor_comm, xor_self, xor_zero_l, xor_zero_r}
use Rattle.gc_half.specs.HalfGate.{and_zero, and_active, generator_row, evaluator_row}

-- the laws of sums of labels
pub ruleset sums = (arith, xor_assoc, xor_comm, xor_self, xor_zero_l, xor_zero_r)

-- The colour of a label that stands for a bit.
pub colour-encode : (offset label : ℕ) (bit : Bool) → colour offset ≡ true
    → colour (encode offset label bit) ≡ xor bit (colour label)
colour-encode offset label bit odd =
    grind (arith, nat_tests, bit_at_xor label offset 120, xor_zero_r)

-- The hash of a label that stands for a bit is one of two.
hash-encode : (hash : ℕ → ℕ → ℕ) (offset label j : ℕ) (bit : Bool)
    → hash (encode offset label bit) j
    ≡ times (not bit) (hash label j) ⊕ times bit (hash (label ⊕ offset) j)
hash-encode hash offset label j bit = grind sums

-- A bit of a label, or 0.
bit_at-times : (bit : Bool) (label i : ℕ) → bit_at (times bit label) i ≡ cond bit (bit_at label i) 0
bit_at-times bit label i = grind arith

ruleset bits = (bit_at-times, bit_at_xor)

-- The generator's half gate gives the label of x && pb, where pb is the colour of b. Its hashes are g and, of the other
-- label, g'.
generator_law : (g g' r : ℕ) (x pa pb : Bool) →
    times (not x) g ⊕ times x g' ⊕ times (xor x pa) (g ⊕ g' ⊕ times pb r)
    ≡ g ⊕ times pa (g ⊕ g' ⊕ times pb r) ⊕ times (x && pb) r
generator_law g g' r x pa pb = same_from_bits _ _ (λ i. simp bits (grind arith))

-- The evaluator's half gate gives the label of x where y is not the colour of b. Its hashes are e and e'.
evaluator_law : (e e' a r : ℕ) (x y pb : Bool) →
    times (not y) e ⊕ times y e' ⊕ times (xor y pb) (e ⊕ e' ⊕ a ⊕ encode r a x)
    ≡ e ⊕ times pb (e ⊕ e' ⊕ a ⊕ a) ⊕ times (xor y pb && x) r
evaluator_law e e' a r x y pb = same_from_bits _ _ (λ i. simp bits (grind arith))

-- The two together give the label of x && y.
halves_law : (g e r : ℕ) (x y pb : Bool)
    → g ⊕ times (x && pb) r ⊕ (e ⊕ times (xor y pb && x) r) ≡ g ⊕ e ⊕ times (x && y) r
halves_law g e r x y pb = same_from_bits _ _ (λ i. simp bits (grind arith))

pub and_law : (hash : ℕ → ℕ → ℕ) (k r a b : ℕ) (x y : Bool) → colour r ≡ true
    → and_active hash k (generator_row hash k r a b) (evaluator_row hash k r a b)
    (encode r a x) (encode r b y) ≡ encode r (and_zero hash k r a b) (x && y)
and_law hash k r a b x y odd =
    simp (hash-encode hash, colour-encode r, generator_law, evaluator_law, halves_law)
