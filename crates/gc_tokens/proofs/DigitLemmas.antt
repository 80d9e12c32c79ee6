-- Bits that tell where digits are, and digits as the bytes of a word.
use Rattle.gc_tokens.proofs.Names.{◌≡◌, ℕ, zero, suc, ◌+◌, ◌-◌, ◌*◌, ◌/◌, ◌%◌, ◌^◌, ◌<◌, ◌≤◌, List, length, take, slice_index, Bool, true, false, inl, inr, map, get_or, ltb, refl, bit_and, mod-lt, w64, arith, list_all, cases_lt, ltb-true, nat_tests, get_or_past, get_or-map, length-map, is_digit, value_of}
use Rattle.std.specs.Int.{bit_at, bit_not, trailing_zeros}
use Rattle.std.specs.Int.Count.{trailing_of_zero}
use Rattle.std.proofs.lemmas.Nat.{and_block, and_mask, shr-shr, shr_high, shr_split, mod-pow-add, pow_pos}
use Rattle.std.proofs.lemmas.Nat.Bits.{bit_at-trailing_zeros, bit_at_not, bit_at_and}
use Rattle.std.proofs.lemmas.Simd.{bit_mask_l}
use lib.Lanes.{mask_l}
use Rattle.gc_tokens.proofs.NumberLemmas.{value_more, digits_more}

-- A bit of the mask of the bytes that pass a test.
pub bit_of : (p : ℕ → Bool) (v : List ℕ) (i : ℕ) → mask_l (map p v) / 2 ^ i % 2 ≡ 1 →
    (i < length v) × (p (get_or v i 0) ≡ true)
bit_of p v i set = elim (cases_lt i (length v)) [
  | inl within ↦
      let told = rw (bit_mask_l (map p v) i, get_or-map p v i 0 false within) at set in
      (within, grind arith)
  | inr past ↦
      let outside = get_or_past (map p v) i false (omega (arith, length-map v p)) in
      let told = rw (bit_mask_l (map p v) i, outside) at set in
      absurd (omega (arith, told))
]

-- A bit of a mask that is inverted.
pub bit_inverted : (mask i : ℕ) → mask < 2 ^ 64 → i < 64 → bit_at (bit_not w64 mask) i ≡ 0 →
    bit_at mask i ≡ 1
bit_inverted mask i fits low clear =
    let inverse = bit_at_not w64 mask i fits low in omega (arith, inverse, clear)

pub wrapped_digit : (b : ℕ) → b < 256 → ltb ((b + 208) % 256) 10 ≡ true → is_digit b ≡ true
wrapped_digit b byte low = let below = ltb-true _ _ low in grind (arith, nat_tests)

-- The bits above one that is set are those of the number before.
bit_before : (n t i : ℕ) → bit_at n t ≡ 1 → t < i → bit_at (n - 1) i ≡ bit_at n i
bit_before n t i set above =
    let k : ℕ = 1 + t in
    let halves : n % 2 ^ k ≡ n / 2 ^ t % 2 * 2 ^ t + n % 2 ^ t = mod-pow-add n 1 t in
    let some : 0 < n % 2 ^ k = omega (arith, rw set at halves, pow_pos t) in
    let parts : n - 1 ≡ n / 2 ^ k * 2 ^ k + (n % 2 ^ k - 1) = omega (arith, shr_split n k, some) in
    let small = mod-lt n (pow_pos k) in
    let same : (n - 1) / 2 ^ k ≡ n / 2 ^ k =
    rw parts (shr_high (n / 2 ^ k) k (n % 2 ^ k - 1) (omega (arith, small))) in
    let place : i ≡ k + (i - k) = omega arith in
    rw (place, ← shr-shr (n - 1) k (i - k), ← shr-shr n k (i - k), same) refl

-- Where the lowest bit of stops is, and what clearing it leaves.
pub record LowestStop (stops end : ℕ) : Type 0 where
  pub clear : (i : ℕ) → i < end → bit_at stops i ≡ 0
  pub later : (i : ℕ) → end < i →
      bit_at (bit_and stops ((stops + 18446744073709551615) % 2 ^ 64)) i ≡ 0 → bit_at stops i ≡ 0

some_stop : (stops : ℕ) → trailing_zeros w64 stops < 64 → 0 < stops
some_stop zero low =
    let none : trailing_zeros w64 0 ≡ 64 = trailing_of_zero 64 in absurd (omega arith)
some_stop (suc n) low = omega arith

pub lowest_stop : (stops : ℕ) → stops < 2 ^ 64 → trailing_zeros w64 stops < 64 →
    LowestStop stops (trailing_zeros w64 stops)
lowest_stop stops fits low =
    let some = some_stop stops low in
    let lowest = bit_at-trailing_zeros w64 stops some fits in
    let less : (stops + 18446744073709551615) % 2 ^ 64 ≡ stops - 1 = omega (arith, some, fits) in
    record {
      clear = lowest.2;
      later = λ i above clear.
          let both = bit_at_and stops (stops - 1) i in
          omega (arith, both, bit_before stops _ i lowest.1 above, rw less at clear);
    }

-- Whatever a run's bytes are by index, all of them are.
pub all_digits : (t : List ℕ) (n : ℕ) → n ≤ length t →
    ((i : ℕ) → i < n → is_digit (slice_index t i) ≡ true) → list_all is_digit (take n t) ≡ true
all_digits t zero fits each = refl
all_digits t (suc n) fits each =
    let one : suc n ≡ n + 1 = omega arith in
    let before = all_digits t n (omega arith) (λ i low. each i (omega arith)) in
    rw one (digits_more t n true (omega arith) before (each n (omega arith)))

-- A word of these eight digits, the first in its low byte, and their value.
abbrev pub AreDigits : (x v a b c d e f g h : ℕ) → Type 0
AreDigits x v a b c d e f g h =
    ((a ≤ 9) × (b ≤ 9) × (c ≤ 9) × (d ≤ 9) × (e ≤ 9) × (f ≤ 9) × (g ≤ 9) × (h ≤ 9))
    × (x ≡ a + b * 256 + c * 65536 + d * 16777216 + e * 4294967296 + f * 1099511627776
    + g * 281474976710656 + h * 72057594037927936)
    × (v ≡ a * 10000000 + b * 1000000 + c * 100000 + d * 10000 + e * 1000 + f * 100 + g * 10 + h)

-- the low byte of each of the four parts of a word
low_bytes : (p q r s : ℕ) → q < 65536 → r < 65536 → s < 65536 →
    bit_and (((p * 2 ^ 16 + q) * 2 ^ 16 + r) * 2 ^ 16 + s) 71777214294589695
    ≡ ((p % 256 * 2 ^ 16 + q % 256) * 2 ^ 16 + r % 256) * 2 ^ 16 + s % 256
low_bytes p q r s hq hr hs =
    let last = and_block 16 ((p * 2 ^ 16 + q) * 2 ^ 16 + r) 1095233372415 s 255 hs (omega arith) in
    let third = and_block 16 (p * 2 ^ 16 + q) 16711935 r 255 hr (omega arith) in
    let second = and_block 16 p 255 q 255 hq (omega arith) in
    rw (last, third, second, and_mask p 8, and_mask q 8, and_mask r 8, and_mask s 8) refl

-- the low half of each half of a word
low_halves : (p q : ℕ) → q < 4294967296 →
    bit_and (p * 2 ^ 32 + q) 281470681808895 ≡ p % 65536 * 2 ^ 32 + q % 65536
low_halves p q hq =
    rw (and_block 32 p 65535 q 65535 hq (omega arith), and_mask p 16, and_mask q 16) refl

-- The word that has pairs of digits in place of digits, the one that has fours in place of pairs, and the value.
abbrev pub pairs_of : ℕ → ℕ
pairs_of x = bit_and (x * 10 + x / 256) 71777214294589695

abbrev pub fours_of : ℕ → ℕ
fours_of x = bit_and (x * 100 + x / 65536) 281470681808895

abbrev pub joined : ℕ → ℕ
joined x = (fours_of (pairs_of x) * 10000 + fours_of (pairs_of x) / 4294967296) % 4294967296

module _ (x v a b c d e f g h : ℕ) (t : AreDigits x v a b c d e f g h) where
  pairs_fit : x * 10 + x / 256 < 2 ^ 64
  pairs_fit = omega (arith, t.0, t.1)

  pairs_are : pairs_of x ≡ a * 10 + b + (c * 10 + d) * 65536 + (e * 10 + f) * 4294967296
      + (g * 10 + h) * 281474976710656
  pairs_are =
      let p : ℕ = a * 10 + b + (b * 10 + c) * 256 in
      let q : ℕ = c * 10 + d + (d * 10 + e) * 256 in
      let r : ℕ = e * 10 + f + (f * 10 + g) * 256 in
      let s : ℕ = g * 10 + h + h * 2560 in
      let low = low_bytes s r q p (omega (arith, t.0)) (omega (arith, t.0)) (omega (arith, t.0)) in
      let sum : x * 10 + x / 256 ≡ ((s * 2 ^ 16 + r) * 2 ^ 16 + q) * 2 ^ 16 + p =
      omega (arith, t.0, t.1) in
      rw sum (omega (arith, low, t.0))

  fours_are : fours_of (pairs_of x)
      ≡ a * 1000 + b * 100 + c * 10 + d + (e * 1000 + f * 100 + g * 10 + h) * 4294967296
  fours_are =
      let p : ℕ = a * 10 + b in
      let q : ℕ = c * 10 + d in
      let r : ℕ = e * 10 + f in
      let s : ℕ = g * 10 + h in
      let above : ℕ = s * 6553600 + (r * 100 + s) in
      let below : ℕ = (q * 100 + r) * 65536 + (p * 100 + q) in
      let low = low_halves above below (omega (arith, t.0)) in
      let sum : pairs_of x * 100 + pairs_of x / 65536 ≡ above * 2 ^ 32 + below =
      omega (arith, t.0, pairs_are) in
      rw sum (omega (arith, low, t.0))

  whole_is : joined x ≡ v
  whole_is = omega (arith, fours_are, t.0, t.2)

digit_range : (b : ℕ) → is_digit b ≡ true → (48 ≤ b) × (b ≤ 57)
digit_range b h = grind (arith, nat_tests)

-- A word of eight bytes.
abbrev pub IsWord : List ℕ → ℕ → Type 0
IsWord text word = word ≡ slice_index text 0 + slice_index text 1 * 256 + slice_index text 2 * 65536
    + slice_index text 3 * 16777216 + slice_index text 4 * 4294967296
    + slice_index text 5 * 1099511627776 + slice_index text 6 * 281474976710656
    + slice_index text 7 * 72057594037927936

-- The word that n digits make, the first after as many zeros as there is room for.
abbrev pub ones_of : (word n : ℕ) → ℕ
ones_of word n = (word + 14974415777481871312) % 18446744073709551616 * 2 ^ (64 - 8 * n)
    % 18446744073709551616

module _ (text : List ℕ) where
  unfoldable digit : ℕ → ℕ
  digit i = slice_index text i - 48

  -- What the first n bytes add to the value, one by one.
  abbrev Run : ℕ → Type 0
  Run zero = value_of (take 0 text) ≡ 0
  Run (suc n) = Run n × (digit n ≤ 9) × (slice_index text n ≡ digit n + 48)
      × (value_of (take (n + 1) text) ≡ value_of (take n text) * 10 + digit n)

  run_of : (n : ℕ) → n ≤ length text →
      ((i : ℕ) → i < n → is_digit (slice_index text i) ≡ true) → Run n
  unfolding value_of digit
  run_of zero fits digits = refl
  run_of (suc n) fits digits =
      let range = digit_range (slice_index text n) (digits n (omega arith)) in (
        run_of n (omega arith) (λ i low. digits i (omega arith)),
        omega arith,
        omega arith,
        value_more text n (omega arith),
      )

  digits_are : (word : ℕ) → word < 2 ^ 64 → IsWord text word →
      (n : ℕ) → 0 < n → n ≤ 8 → Run n →
      (a b c d e f g h : ℕ) × AreDigits (ones_of word n) (value_of (take n text)) a b c d e f g h
  digits_are word fits is zero some few run = absurd (omega arith)
  digits_are word fits is (suc zero) some few run =
      (0, 0, 0, 0, 0, 0, 0, digit 0, omega arith)
  digits_are word fits is (suc (suc zero)) some few run =
      (0, 0, 0, 0, 0, 0, digit 0, digit 1, omega arith)
  digits_are word fits is (suc (suc (suc zero))) some few run =
      (0, 0, 0, 0, 0, digit 0, digit 1, digit 2, omega arith)
  digits_are word fits is (suc (suc (suc (suc zero)))) some few run =
      (0, 0, 0, 0, digit 0, digit 1, digit 2, digit 3, omega arith)
  digits_are word fits is (suc (suc (suc (suc (suc zero))))) some few run =
      (0, 0, 0, digit 0, digit 1, digit 2, digit 3, digit 4, omega arith)
  digits_are word fits is (suc (suc (suc (suc (suc (suc zero)))))) some few run =
      (0, 0, digit 0, digit 1, digit 2, digit 3, digit 4, digit 5, omega arith)
  digits_are word fits is (suc (suc (suc (suc (suc (suc (suc zero))))))) some few run =
      (0, digit 0, digit 1, digit 2, digit 3, digit 4, digit 5, digit 6, omega arith)
  digits_are word fits is (suc (suc (suc (suc (suc (suc (suc (suc zero)))))))) some few run =
      (digit 0, digit 1, digit 2, digit 3, digit 4, digit 5, digit 6, digit 7, omega arith)
  digits_are word fits is (suc (suc (suc (suc (suc (suc (suc (suc (suc n))))))))) some few run =
      absurd (omega arith)

-- Digits, pairs and fours fit the word, and their value is that of the digits.
pub value_joined : (n : ℕ) (text : List ℕ) (word : ℕ) → 0 < n → n ≤ 8 → 8 ≤ length text →
    ((i : ℕ) → i < n → is_digit (slice_index text i) ≡ true) → word < 2 ^ 64 → IsWord text word →
    (ones_of word n * 10 + ones_of word n / 256 < 2 ^ 64)
    × (joined (ones_of word n) ≡ value_of (take n text))
value_joined n text word some few room digits fits is =
    let (a, b, c, d, e, f, g, h, t) =
    digits_are text word fits is n some few (run_of text n (omega arith) digits) in (
      pairs_fit (ones_of word n) (value_of (take n text)) a b c d e f g h t,
      whole_is (ones_of word n) (value_of (take n text)) a b c d e f g h t,
    )
