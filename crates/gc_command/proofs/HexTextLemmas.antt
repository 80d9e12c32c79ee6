-- The hexadecimal texts of values: how one is made byte by byte, and that it is read as the value.
use Rattle.gc_command.proofs.Names.{◌≡◌, ℕ, zero, suc, ◌+◌, ◌*◌, ◌/◌, ◌%◌, ◌^◌, ◌<◌, ◌≤◌, ◌==◌, inl, inr, min, Bool, true, false, List, [], ◌∷◌, ◌++◌, length, map, take, drop, get_or, slice_index, Ok, refl, sym, ap, ◌∙◌, arith, codes, fun_ext, range_with_len, list_all, bit_at, cases_lt, drop-drop, drop_min, take_min, get_or_past, length-take, length-drop, fill_by_all, get_or-map-range_with_len, IsBytes, encode_lower, is_hex_digit, lower_digits, Hexadecimal, byte_at, value_of_text, wire_bit, value_text_law, bits_number, bytes_for, bit_in}
use Rattle.std.proofs.Math.Nat.{pow-suc}
use Rattle.std.proofs.lemmas.Nat.{pow_pos}
use Rattle.std.proofs.lemmas.Nat.Bits.{bit_at-zero, bit_at_above}
use Rattle.hex.specs.Hex.{encode_with}
use Rattle.hex.proofs.HexLemmas.{IsDigits, IsDigits-lower_digits, length-encode_with}
use Rattle.gc_file.specs.DecodeBits.{packed}
use Rattle.gc_file.proofs.PackLemmas.{length-packed, unpacked-packed}

-- ---- bytes of bits

-- at most n bits make a number below 2 ^ n
pub bits_number-within : (bits : List Bool) (n : ℕ) → length bits ≤ n → bits_number bits < 2 ^ n
bits_number-within [] n h = pow_pos n
bits_number-within (b ∷ bits) zero h = absurd (omega arith)
bits_number-within (true ∷ bits) (suc n) h =
    let rest = bits_number-within bits n (omega arith) in rw (pow-suc 2 n) (omega arith)
bits_number-within (false ∷ bits) (suc n) h =
    let rest = bits_number-within bits n (omega arith) in rw (pow-suc 2 n) (omega arith)

-- byte k of packed bits
packed-at : (bits : List Bool) (k : ℕ) → k < bytes_for (length bits)
    → get_or (packed bits) k 0 ≡ bits_number (take 8 (drop (8 * k) bits))
unfolding packed
packed-at bits k within =
    get_or-map-range_with_len (λ i. bits_number (take 8 (drop (8 * i) bits))) 0
    (bytes_for (length bits)) k k 0 within (omega arith)

-- The first byte of packed bits is that of the first eight, and those after it are those of the rest.
pub packed-more : (bits : List Bool) → 0 < length bits
    → packed bits ≡ bits_number (take 8 bits) ∷ packed (drop 8 bits)
unfolding packed
packed-more bits some =
    sym (fill_by_all (λ k. bits_number (take 8 (drop (8 * k) bits)))
    (bits_number (take 8 bits) ∷ packed (drop 8 bits)) (bytes_for (length bits)) 0
    (omega (arith, length-packed (drop 8 bits), length-drop 8 bits)) at)
  where
    at : (k : ℕ) → k < bytes_for (length bits)
        → get_or (bits_number (take 8 bits) ∷ packed (drop 8 bits)) k 0
        ≡ bits_number (take 8 (drop (8 * k) bits))
    at zero within = refl
    at (suc k) within =
        let place : 8 + 8 * k ≡ 8 * suc k = omega arith in
        packed-at (drop 8 bits) k (omega (arith, length-drop 8 bits))
        ∙ ap (λ l. bits_number (take 8 l))
        (drop-drop (8 * k) 8 bits ∙ ap (λ n. drop n bits) place)

pub packed-none : (bits : List Bool) → length bits ≡ 0 → packed bits ≡ []
unfolding packed
packed-none [] none = refl
packed-none (b ∷ bits) none = absurd (omega arith)

-- What a loop takes of a list at once, eight elements or all, is the first eight.
pub first_eight : (bits : List Bool) (n : ℕ) → n ≡ min (length bits) 8
    → (take n bits ≡ take 8 bits) × (drop n bits ≡ drop 8 bits)
first_eight bits n is =
    let least : n ≡ min 8 (length bits) = omega arith in
    (rw least (take_min 8 bits), rw least (drop_min 8 bits))

packed-bytes : (bits : List Bool) → IsBytes (packed bits)
packed-bytes bits k = elim (cases_lt k (bytes_for (length bits))) [
  | inl there ↦ (
      let byte = bits_number-within (take 8 (drop (8 * k) bits)) 8
      (omega (arith, length-take 8 (drop (8 * k) bits))) in
      rw (packed-at bits k there) byte)
  | inr past ↦ rw (get_or_past (packed bits) k 0 (omega (arith, length-packed bits))) (omega arith)
]

-- no bit is set from the last on
packed-past : (bits : List Bool) (i : ℕ) → length bits ≤ i → bit_in (packed bits) i ≡ false
packed-past bits i past = elim (cases_lt (i / 8) (bytes_for (length bits))) [
  | inl there ↦ (
      let byte = take 8 (drop (8 * (i / 8)) bits) in
      let none = bit_at_above (bits_number byte) (length byte) (i % 8)
      (bits_number-within byte (length byte) (omega arith))
      (omega (arith, length-take 8 (drop (8 * (i / 8)) bits), length-drop (8 * (i / 8)) bits)) in
      ap (λ n. bit_at n (i % 8) == 1) (packed-at bits (i / 8) there) ∙ ap (λ n. n == 1) none)
  | inr beyond ↦
      ap (λ n. bit_at n (i % 8) == 1)
      (get_or_past (packed bits) (i / 8) 0 (omega (arith, length-packed bits)))
      ∙ ap (λ n. n == 1) (bit_at-zero (i % 8))
]

-- ---- digits of bytes

pub encode_lower-more : (byte : ℕ) (bytes : List ℕ)
    → encode_lower (byte ∷ bytes) ≡ encode_lower (byte ∷ []) ++ encode_lower bytes
unfolding encode_with
encode_lower-more byte bytes = refl

pub encode_lower-none : encode_lower [] ≡ []
unfolding encode_with
encode_lower-none = refl

-- the digits of bytes are read as the bytes
byte_at-encoded : (t xs : List ℕ) → IsDigits t → IsBytes xs → (k : ℕ)
    → byte_at (encode_with t xs) k ≡ slice_index xs k
unfolding encode_with
byte_at-encoded t [] digits small k = refl
byte_at-encoded t (b ∷ rest) digits small zero =
    let fits : b < 256 = small 0 in
    rw (digits (b / 16) (omega arith), digits (b % 16) (omega arith)) (omega arith)
byte_at-encoded t (b ∷ rest) digits small (suc k) =
    let high : 2 * suc k ≡ suc (suc (2 * k)) = omega arith in
    let low : 2 * suc k + 1 ≡ suc (suc (2 * k + 1)) = omega arith in
    rw (low, high) (byte_at-encoded t rest digits (λ i. small (suc i)) k)

encoded-digits : (t xs : List ℕ) → IsDigits t → IsBytes xs
    → list_all is_hex_digit (encode_with t xs) ≡ true
unfolding encode_with
encoded-digits t [] digits small = refl
encoded-digits t (b ∷ rest) digits small =
    let fits : b < 256 = small 0 in
    rw (digits (b / 16) (omega arith), digits (b % 16) (omega arith))
    (encoded-digits t rest digits (λ i. small (suc i)))

-- ---- the text is read as the value

encoded-bit : (bits : List Bool) (i : ℕ)
    → wire_bit (Hexadecimal (encode_lower (packed bits))) i ≡ bit_in (packed bits) i
encoded-bit bits i =
    ap (λ byte. bit_at byte (i % 8) == 1)
    (byte_at-encoded lower_digits (packed bits) IsDigits-lower_digits (packed-bytes bits) (i / 8))

nat_eq-same : (n m : ℕ) → n ≡ m → (n == m) ≡ true
nat_eq-same n m e = grind (arith, e)

pub hex_text-read : (bits : List Bool)
    → value_of_text (codes "x" ++ encode_lower (packed bits)) (length bits) ≡ Ok bits
hex_text-read bits =
    let digits = encode_lower (packed bits) in
    ((value_text_law (codes "x" ++ digits) (length bits)).value bits).1 record {
      right_length = nat_eq-same (length digits) (2 * bytes_for (length bits))
          (length-encode_with lower_digits (packed bits)
          ∙ ap (λ n. 2 * n) (length-packed bits));
      all_digits = encoded-digits lower_digits (packed bits) IsDigits-lower_digits
          (packed-bytes bits);
      rest_zero = λ i past. encoded-bit bits i ∙ packed-past bits i past;
      in_wire_order = sym (unpacked-packed bits)
          ∙ ap (λ f. map f (range_with_len 0 (length bits)))
          (fun_ext (λ i. sym (encoded-bit bits i)));
    }
