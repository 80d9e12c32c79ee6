-- Laws of labels, for the crates above.
use Rattle.std.proofs.Common.{◌≡◌, ℕ, zero, suc, ◌+◌, ◌*◌, ◌/◌, ◌%◌, ◌^◌, ◌<◌, IsTrue, bit_or, List, [], ◌∷◌, length, get_or, refl, arith}
use Rattle.std.specs.Int.{bit_at, byte_at, bytes_high_first}
use Rattle.std.proofs.Math.Nat.{div-div-eq-div-mul, pow-suc}
use Rattle.std.proofs.lemmas.Nat.Bits.{bit_at_or, bit_at-pow_same, bit_at-lt}
use Rattle.std.proofs.lemmas.List.FromFn.{fill_by_all}
use Rattle.gc_label.specs.Label.{colour, label_of_bytes, bytes_of_label}

-- a label whose colour is set has the colour 1
pub colour_bit_or : (label : ℕ) → IsTrue (colour (bit_or label (2 ^ 120)))
colour_bit_or label =
    let one : bit_at (bit_or label (2 ^ 120)) 120 ≡ 1 =
    omega (arith, bit_at_or label (2 ^ 120) 120, bit_at-pow_same 120, bit_at-lt label 120) in
    rw one

-- ---- the bytes of a label

-- the number whose digits to base 256 are those of n and then the bytes
abbrev value_after : ℕ → List ℕ → ℕ
value_after n [] = n
value_after n (b ∷ bytes) = value_after (n * 256 + b) bytes

-- byte k of a number, the lowest being byte 0
byte_at_is : (k n : ℕ) → byte_at k n ≡ n / 256 ^ k % 256
byte_at_is zero n = omega arith
byte_at_is (suc k) n = refl

-- the number of some bytes after n has n before them, and ends with them
bytes_high_first-value_after : (n : ℕ) (bytes : List ℕ) → ((i : ℕ) → get_or bytes i 0 < 256)
    → (value_after n bytes / 256 ^ length bytes ≡ n)
    × (bytes_high_first (length bytes) (value_after n bytes) ≡ bytes)
bytes_high_first-value_after n [] small = (omega arith, refl)
bytes_high_first-value_after n (b ∷ bytes) small =
    let first : b < 256 = small 0 in
    let all = value_after (n * 256 + b) bytes in
    let rest = bytes_high_first-value_after (n * 256 + b) bytes (λ i. small (suc i)) in
    let k = length bytes in
    let digit : byte_at k all ≡ b = omega (arith, byte_at_is k all, rest.0) in
    let shorter = div-div-eq-div-mul all (256 ^ k) 256 in
    (rw (pow-suc 256 k, ← shorter) (omega (arith, rest.0)), rw (digit, rest.1) refl)

-- a label has 16 bytes
pub length-bytes_of_label : (label : ℕ) → length (bytes_of_label label) ≡ 16
unfolding bytes_of_label
length-bytes_of_label label = refl

-- the label of a label's bytes is the label
pub label_of_bytes-bytes_of_label : (label : ℕ) → label < 2 ^ 128
    → label_of_bytes (bytes_of_label label) ≡ label
unfolding label_of_bytes bytes_of_label
label_of_bytes-bytes_of_label label fits = omega arith

-- the bytes of the label of 16 bytes are these bytes
pub bytes_of_label-label_of_bytes : (bytes : List ℕ) → length bytes ≡ 16
    → ((i : ℕ) → get_or bytes i 0 < 256) → bytes_of_label (label_of_bytes bytes) ≡ bytes
unfolding label_of_bytes bytes_of_label
bytes_of_label-label_of_bytes bytes len small =
    let spelled : label_of_bytes bytes ≡ value_after 0 bytes =
    rw (fill_by_all (λ i. get_or bytes i 0) bytes 16 0 len (λ k h. refl)) (omega arith) in
    rw spelled (rw len at (bytes_high_first-value_after 0 bytes small).1)

-- the label of 16 bytes is below 2 ^ 128
pub label_of_bytes-lt : (bytes : List ℕ) → length bytes ≡ 16 → ((i : ℕ) → get_or bytes i 0 < 256)
    → label_of_bytes bytes < 2 ^ 128
unfolding label_of_bytes
label_of_bytes-lt bytes len small = omega arith
