-- Bits, digits and bytes of value texts.
use Rattle.gc_circuit.proofs.Names.{◌≡◌, ℕ, zero, suc, ◌+◌, ◌-◌, ◌*◌, ◌/◌, ◌%◌, ◌^◌, ◌<◌, ◌≤◌, ◌==◌, ◌&&◌, ◌↔◌, inl, inr, min, Bool, true, false, List, [], ◌∷◌, ◌++◌, length, map, take, slice_index, Ok, Err, refl, sym, ap, ◌∙◌, arith, add-one, range_with_len, list_all, list_any, cases_Bool, cases_lt, common_steps, nat_tests, append_assoc, get_or-map, get_or_past, length-map, list_all_more, list_any_at, ValueText, Binary, Hexadecimal, has_length, has_spare_bit, is_binary_digit, byte_at, bytes_for, low_bits, wire_bit, form_of, value_of_form, value_of_text, binary_digit, IsValue, IsFirstFault, ValueTextLaw}
use Rattle.std.specs.Int.{bit_at, trailing_zeros, w8}
use Rattle.std.proofs.lemmas.List.FromFn.{fill_by_all, get_or-range_with_len, length-range_with_len, map-range_with_len_more}
use Rattle.std.proofs.lemmas.Nat.{pow-add, pow_pos}
use Rattle.std.proofs.lemmas.Nat.Bits.{bit_at-zero, bit_at_above, bit_at-trailing_zeros}
use Rattle.std.proofs.Math.Nat.{div-div-eq-div-mul, div-le_self, lt-div-mul-add}
use Rattle.hex.specs.Hex.{is_hex_digit}
use Rattle.gc_circuit.specs.declared.value.ValueFault.{ValueFault}
use Rattle.gc_circuit.specs.declared.value.ValueFault.TheVariants.{Memory, WrongLength, BadDigit, SpareBits}

-- ---- a test over a range of places

-- a place that passes
pub any_place : (p : ℕ → Bool) (a m : ℕ) → list_any p (range_with_len a m) ≡ true →
    (i : ℕ) × (a ≤ i) × (p i ≡ true)
any_place p a zero h = cc
any_place p a (suc m) h = elim (cases_Bool (p a)) [
  | inl at ↦ (a, omega arith, at)
  | inr fails ↦
      let (i, from, at) = any_place p (a + 1) m (grind arith) in (i, omega arith, at)
]

-- one place that passes settles the result
pub any_at_place : (p : ℕ → Bool) (a m i : ℕ) → a ≤ i → i < a + m → p i ≡ true →
    list_any p (range_with_len a m) ≡ true
any_at_place p a m i from below h =
    let within : i - a < m = omega arith in
    let place : a + (i - a) ≡ i = omega arith in
    list_any_at p (range_with_len a m) (i - a) 0 (rw length-range_with_len within)
    (ap p (get_or-range_with_len a m (i - a) 0 within ∙ place) ∙ h)

-- no place passes
pub none_in_range : (p : ℕ → Bool) (a m : ℕ) → ((i : ℕ) → a ≤ i → i < a + m → p i ≡ false) →
    list_any p (range_with_len a m) ≡ false
none_in_range p a zero h = refl
none_in_range p a (suc m) h =
    rw (h a (omega arith) (omega arith))
    (none_in_range p (a + 1) m (λ i from below. h i (omega arith) (omega arith)))

-- ---- lists of bits

-- one more place
pub range_more : (f : ℕ → Bool) (i : ℕ) →
    map f (range_with_len 0 (i + 1)) ≡ map f (range_with_len 0 i) ++ f i ∷ []
range_more f i = map-range_with_len_more f 0 i i (omega arith)

-- the first m places and then u more
pub map_joined : (f g : ℕ → Bool) (m u : ℕ) → ((j : ℕ) → j < u → f (m + j) ≡ g j) →
    map f (range_with_len 0 (m + u)) ≡ map f (range_with_len 0 m) ++ map g (range_with_len 0 u)
map_joined f g m zero h = grind (arith, common_steps)
map_joined f g m (suc u) h =
    let more : m + suc u ≡ m + u + 1 = omega arith in
    let last = rw add-one at (range_more g u) in
    let before = map_joined f g m u (λ j below. h j (omega arith)) in
    rw (more, last, range_more f (m + u), before, h u (omega arith)) (simp append_assoc)

-- ---- the first form

-- no bit is left past the digits
pub binary_past : (digits : List ℕ) (i : ℕ) → length digits ≤ i → wire_bit (Binary digits) i ≡ false
binary_past digits i past = rw (get_or_past digits i 0 past) refl

pub binary_ok : (digits : List ℕ) (n : ℕ) (bits : List Bool) → length digits ≡ n →
    list_all is_binary_digit digits ≡ true →
    bits ≡ map (wire_bit (Binary digits)) (range_with_len 0 n) →
    value_of_form (Binary digits) n ≡ Ok bits
binary_ok digits n bits long all is =
    let test : (length digits == n) ≡ true = grind (arith, nat_tests) in
    let none = none_in_range (wire_bit (Binary digits)) n (8 * bytes_for n - n)
    (λ i from below. binary_past digits i (omega arith)) in
    rw (test, all, none, is) refl

-- ---- the second form

-- the bits of a byte
pub wire_in_byte : (digits : List ℕ) (k j : ℕ) → j < 8 →
    wire_bit (Hexadecimal digits) (8 * k + j) ≡ (bit_at (byte_at digits k) j == 1)
wire_in_byte digits k j below =
    let byte : (8 * k + j) / 8 ≡ k = omega arith in
    let place : (8 * k + j) % 8 ≡ j = omega arith in
    rw (byte, place) refl

-- two more digits
pub digits_more : (digits : List ℕ) (k : ℕ) → 2 * k + 1 < length digits →
    list_all is_hex_digit (take (2 * (k + 1)) digits)
    ≡ (list_all is_hex_digit (take (2 * k) digits)
    && (is_hex_digit (slice_index digits (2 * k)) && is_hex_digit (slice_index digits (2 * k + 1))))
digits_more digits k within =
    let two : 2 * (k + 1) ≡ 2 * k + 1 + 1 = omega arith in
    let more = list_all_more is_hex_digit digits in
    rw (two, more (2 * k + 1) 0 within, more (2 * k) 0 (omega arith)) (grind arith)

-- the bits of one more byte
pub bits_of_byte_more : (digits : List ℕ) (n k used byte : ℕ) (bits new : List Bool) → 8 * k < n →
    used ≡ min (n - 8 * k) 8 → byte ≡ byte_at digits k →
    bits ≡ map (wire_bit (Hexadecimal digits)) (range_with_len 0 (min (8 * k) n)) →
    new ≡ bits ++ low_bits byte used →
    new ≡ map (wire_bit (Hexadecimal digits)) (range_with_len 0 (min (8 * (k + 1)) n))
bits_of_byte_more digits n k used byte bits new inside count is before pushed =
    let f = wire_bit (Hexadecimal digits) in
    let all_before : min (8 * k) n ≡ 8 * k = omega arith in
    let all_now : min (8 * (k + 1)) n ≡ 8 * k + used = omega arith in
    let joined = map_joined f (λ j. bit_at byte j == 1) (8 * k) used
    (λ j below. rw is (wire_in_byte digits k j (omega arith))) in
    pushed ∙ rw (before, all_before, all_now) (sym joined)

-- a number without bits from u on
below_power : (b u : ℕ) → b / 2 ^ u ≡ 0 → b < 2 ^ u
below_power b u h = let bound = rw h at (lt-div-mul-add {a = b} (pow_pos u)) in omega arith

-- one more byte without a spare bit
pub rest_zero_more : (digits : List ℕ) (n k used byte : ℕ) → 8 * k < n → used ≡ min (n - 8 * k) 8 →
    byte ≡ byte_at digits k → byte / 2 ^ used ≡ 0 →
    ((i : ℕ) → n ≤ i → i < 8 * k → wire_bit (Hexadecimal digits) i ≡ false) →
    (i : ℕ) → n ≤ i → i < 8 * (k + 1) → wire_bit (Hexadecimal digits) i ≡ false
rest_zero_more digits n k used byte inside count is none before i from below =
    let place : i ≡ 8 * k + (i - 8 * k) = omega arith in
    let past : used ≤ i - 8 * k = omega arith in
    let zero_there = bit_at_above byte used (i - 8 * k) (below_power byte used none) past in
    rw (place, wire_in_byte digits k (i - 8 * k) (omega arith), ← is, zero_there) refl

-- a byte with a bit from u on has one below 8
bit_from : (b u : ℕ) → b < 2 ^ 8 → (b / 2 ^ u ≡ 0 → ⊥) →
    (i : ℕ) × (u ≤ i) × (i < 8) × (bit_at b i ≡ 1)
bit_from b u byte some =
    let small : b / 2 ^ u < 2 ^ 8 = omega (arith, div-le_self b (2 ^ u)) in
    let found = bit_at-trailing_zeros w8 (b / 2 ^ u) (omega arith) small in
    let j = trailing_zeros w8 (b / 2 ^ u) in
    let set : bit_at b (u + j) ≡ 1 = rw (pow-add, ← div-div-eq-div-mul b (2 ^ u) (2 ^ j)) found.1 in
    let below : u + j < 8 = elim (cases_lt (u + j) 8) [
      | inl below ↦ below
      | inr past ↦ let none = bit_at_above b 8 (u + j) byte past in absurd (omega arith)
    ] in
    (u + j, omega arith, below, set)

-- a byte with a spare bit is the last
pub spare_in_byte : (digits : List ℕ) (n k used byte : ℕ) → 8 * k < n → k < bytes_for n →
    used ≡ min (n - 8 * k) 8 → byte ≡ byte_at digits k → byte < 2 ^ 8 →
    (byte / 2 ^ used ≡ 0 → ⊥) →
    (k + 1 ≡ bytes_for n) × (has_spare_bit n (Hexadecimal digits) ≡ true)
spare_in_byte digits n k used byte inside within count is small some =
    let (i, from, below, set) = bit_from byte used small some in (
      omega arith,
      any_at_place (wire_bit (Hexadecimal digits)) n (8 * bytes_for n - n) (8 * k + i)
          (omega arith) (omega arith) (rw (wire_in_byte digits k i below, ← is, set) refl),
    )

-- a character that is no digit
pub hexadecimal_bad : (digits : List ℕ) (n : ℕ) → length digits ≡ 2 * bytes_for n →
    list_all is_hex_digit digits ≡ false → value_of_form (Hexadecimal digits) n ≡ Err BadDigit
hexadecimal_bad digits n long bad =
    let test : (length digits == 2 * bytes_for n) ≡ true = grind (arith, nat_tests) in
    rw (test, bad) refl

pub hexadecimal_ok : (digits : List ℕ) (n : ℕ) → length digits ≡ 2 * bytes_for n →
    list_all is_hex_digit digits ≡ true → (bits : List Bool) →
    ((i : ℕ) → n ≤ i → i < 8 * bytes_for n → wire_bit (Hexadecimal digits) i ≡ false) →
    bits ≡ map (wire_bit (Hexadecimal digits)) (range_with_len 0 n) →
    value_of_form (Hexadecimal digits) n ≡ Ok bits
hexadecimal_ok digits n long all bits zero_past is =
    let test : (length digits == 2 * bytes_for n) ≡ true = grind (arith, nat_tests) in
    let none = none_in_range (wire_bit (Hexadecimal digits)) n (8 * bytes_for n - n)
    (λ i from below. zero_past i from (omega arith)) in
    rw (test, all, none, is) refl

-- ---- the law

hexadecimal_past : (digits : List ℕ) (i : ℕ) → length digits ≤ 2 * (i / 8) →
    wire_bit (Hexadecimal digits) i ≡ false
hexadecimal_past digits i past =
    let first = get_or_past digits (2 * (i / 8)) 0 past in
    let second = get_or_past digits (2 * (i / 8) + 1) 0 (omega arith) in
    rw (first, second, bit_at-zero (i % 8)) refl

-- a bit that is 1 past n wires, in a text of the right length, is in the last byte
within_last : (t : ValueText) (n i : ℕ) → has_length n t ≡ true → n ≤ i → wire_bit t i ≡ true →
    i < n + (8 * bytes_for n - n)
within_last (Binary digits) n i long from set = grind (arith, nat_tests, binary_past)
within_last (Hexadecimal digits) n i long from set = grind (arith, nat_tests, hexadecimal_past)

no_spare_place : (t : ValueText) (n : ℕ) → has_length n t ≡ true → has_spare_bit n t ≡ false →
    (i : ℕ) → n ≤ i → wire_bit t i ≡ false
no_spare_place t n long none i from = elim (cases_Bool (wire_bit t i)) [
  | inl set ↦
      let some = any_at_place (wire_bit t) n (8 * bytes_for n - n) i from
      (within_last t n i long from set) set in
      cc
  | inr free ↦ free
]

value_of : (t : ValueText) (n : ℕ) (bits : List Bool) →
    (value_of_form t n ≡ Ok bits) ↔ IsValue t n bits
value_of t n bits = (
  λ h. record {
    right_length = grind arith;
    all_digits = grind arith;
    rest_zero = no_spare_place t n (grind arith) (grind arith);
    in_wire_order = grind arith;
  },
  λ v.
      let spare = none_in_range (wire_bit t) n (8 * bytes_for n - n)
      (λ i from below. v.rest_zero i from) in
      rw (v.right_length, v.all_digits, spare, v.in_wire_order) refl,
)

fault_of : (t : ValueText) (n : ℕ) (e : ValueFault) →
    (value_of_form t n ≡ Err e) ↔ IsFirstFault t n e
fault_of t n WrongLength = (λ h. grind arith, λ f. grind arith)
fault_of t n BadDigit = (λ h. grind arith, λ f. grind arith)
fault_of t n SpareBits = (
  λ h. (grind arith, grind arith, any_place (wire_bit t) n (8 * bytes_for n - n) (grind arith)),
  λ f.
      let spare = any_at_place (wire_bit t) n (8 * bytes_for n - n) f.2.0 f.2.1
      (within_last t n f.2.0 f.0 f.2.1 f.2.2) f.2.2 in
      rw (f.0, f.1, spare) refl,
)
fault_of t n Memory = (λ h. grind arith, λ f. absurd f)

pub value_text_law : (text : List ℕ) (n : ℕ) → ValueTextLaw text n
value_text_law text n =
    record { value = value_of (form_of text) n; fault = fault_of (form_of text) n }

-- ---- what is shown is read back

shown_form : (bits : List Bool) → form_of (map binary_digit bits) ≡ Binary (map binary_digit bits)
shown_form [] = refl
shown_form (b ∷ bits) = grind arith

shown_digits : (bits : List Bool) → list_all is_binary_digit (map binary_digit bits) ≡ true
shown_digits [] = refl
shown_digits (b ∷ bits) = grind (arith, shown_digits bits)

pub shown_is_read : (bits : List Bool) →
    value_of_text (map binary_digit bits) (length bits) ≡ Ok bits
shown_is_read bits =
    rw (shown_form bits) (binary_ok (map binary_digit bits) (length bits) bits
    (length-map bits binary_digit) (shown_digits bits)
    (fill_by_all (wire_bit (Binary (map binary_digit bits))) bits (length bits) false refl
    (λ k below. grind (arith, get_or-map binary_digit bits k false 0 below))))
