-- Decode bits and the bytes that they are packed into.
use Rattle.gc_file.proofs.Names.{◌≡◌, ℕ, zero, suc, ◌+◌, ◌-◌, ◌*◌, ◌/◌, ◌%◌, ◌^◌, ◌<◌, ◌≤◌, inl, inr, Bool, true, false, if◌then◌else◌, nat_eq, List, [], ◌∷◌, length, take, drop, map, get_or, refl, sym, ap, ◌∙◌, arith, cases_lt, nat_tests, range_with_len, pow-suc, get_or-take, get_or-drop, get_or_past, length-take, length-drop, fill_by_all, get_or-map-range_with_len, length-map-range_with_len, bit_at_lowest, bit_at-suc, bit_at-zero, bit_at-lt, bit_at_above, same_from_bits_below, bits_number, bytes_for, packed, bit_in, IsSpare}
use Rattle.std.specs.Int.{bit_at}

-- The number of n bits is below 2 ^ n.
pub bits_number-below : (n : ℕ) (bits : List Bool) → length bits ≤ n → bits_number bits < 2 ^ n
bits_number-below zero [] few = omega arith
bits_number-below (suc n) [] few = omega (arith, bits_number-below n [] (omega arith), pow-suc 2 n)
bits_number-below zero (bit ∷ bits) few = absurd (omega arith)
bits_number-below (suc n) (bit ∷ bits) few =
    let rest = bits_number-below n bits (omega arith) in grind (arith, pow-suc 2 n)

-- A bit as a number, alone and below others.
abbrev digit : Bool → ℕ
digit bit = if bit then 1 else 0

digit-below : (bit : Bool) (n : ℕ)
    → ((digit bit + 2 * n) % 2 ≡ digit bit) × ((digit bit + 2 * n) / 2 ≡ n)
digit-below true n = (omega arith, omega arith)
digit-below false n = (omega arith, omega arith)

bit_at-bits_number : (bits : List Bool) (i : ℕ)
    → bit_at (bits_number bits) i ≡ digit (get_or bits i false)
bit_at-bits_number [] i = bit_at-zero i
bit_at-bits_number (bit ∷ bits) zero =
    bit_at_lowest (bits_number (bit ∷ bits)) ∙ (digit-below bit (bits_number bits)).0
bit_at-bits_number (bit ∷ bits) (suc i) =
    bit_at-suc (bits_number (bit ∷ bits)) i
    ∙ ap (λ n. bit_at n i) (digit-below bit (bits_number bits)).1 ∙ bit_at-bits_number bits i

-- A bit that was made of a number below 2 is it again.
bit_again : (n : ℕ) → n < 2 → digit (nat_eq n 1) ≡ n
bit_again n h = grind (arith, nat_tests)

made_again : (b : Bool) → nat_eq (digit b) 1 ≡ b
made_again b = grind arith

-- The number in byte k of the packed bits,
abbrev chunk : List Bool → ℕ → ℕ
chunk bits k = bits_number (take 8 (drop (8 * k) bits))

pub packed-at : (bits : List Bool) (k d : ℕ) → k < bytes_for (length bits)
    → get_or (packed bits) k d ≡ chunk bits k
unfolding packed
packed-at bits k d within =
    get_or-map-range_with_len (chunk bits) 0 (bytes_for (length bits)) k k d within (omega arith)

chunk-lt : (bits : List Bool) (k : ℕ) → chunk bits k < 2 ^ 8
chunk-lt bits k = bits_number-below 8 (take 8 (drop (8 * k) bits))
    (omega (arith, length-take 8 (drop (8 * k) bits)))

-- and its bit i.
chunk_bit : (bits : List Bool) (k i : ℕ) → i < 8
    → bit_at (chunk bits k) i ≡ digit (get_or bits (8 * k + i) false)
chunk_bit bits k i below =
    bit_at-bits_number (take 8 (drop (8 * k) bits)) i
    ∙ ap digit (get_or-take 8 (drop (8 * k) bits) i false below ∙ get_or-drop (8 * k) bits i false)

module _ (bytes : List ℕ) (outputs : ℕ) (len : length bytes ≡ bytes_for outputs)
    (small : (i : ℕ) → get_or bytes i 0 < 256) (none : IsSpare outputs bytes → ⊥) where
  abbrev bits : List Bool
  bits = map (bit_in bytes) (range_with_len 0 outputs)

  count : length bits ≡ outputs
  count = length-map-range_with_len (bit_in bytes) 0 outputs

  bit : (k i : ℕ) → k < bytes_for outputs → i < 8
      → bit_at (get_or bytes k 0) i ≡ digit (get_or bits (8 * k + i) false)
  bit k i within below =
      let byte = get_or bytes k 0 in let n = 8 * k + i in
      elim (cases_lt n outputs) [
        | inl there ↦ (
            let at : n / 8 ≡ k = omega arith in let place : n % 8 ≡ i = omega arith in
            rw (
              get_or-map-range_with_len (bit_in bytes) 0 outputs n n false there (omega arith),
              at,
              place,
            ) (sym (bit_again (bit_at byte i) (bit_at-lt byte i))))
        | inr past ↦ rw (get_or_past bits n false (omega (arith, count)))
            (elim (cases_lt byte (2 ^ (outputs % 8))) [
              | inl low ↦ bit_at_above byte (outputs % 8) i low (omega arith)
              | inr high ↦
                  let last : k ≡ length bytes - 1 = omega arith in
                  absurd (none (record { not_full = omega arith; bit = rw (← last) high }))
            ])
      ]

  -- The bits of bytes without a spare bit, packed again, are the bytes.
  pub packed-unpacked : packed bits ≡ bytes
  unfolding packed
  packed-unpacked = rw count (sym (fill_by_all (chunk bits) bytes (bytes_for outputs) 0 len
      (λ k within. same_from_bits_below 8 (get_or bytes k 0) (chunk bits k) (small k)
      (chunk-lt bits k) (λ i below. bit k i within below ∙ sym (chunk_bit bits k i below)))))

-- The bits that bytes have are those that were packed into them.
pub unpacked-packed : (bits : List Bool)
    → map (bit_in (packed bits)) (range_with_len 0 (length bits)) ≡ bits
unpacked-packed bits =
    sym (fill_by_all (bit_in (packed bits)) bits (length bits) false refl (λ i within.
    let place : 8 * (i / 8) + i % 8 ≡ i = omega arith in
    rw (
      packed-at bits (i / 8) 0 (omega arith),
      chunk_bit bits (i / 8) (i % 8) (omega arith),
      place,
    ) (sym (made_again (get_or bits i false)))))

pub length-packed : (bits : List Bool) → length (packed bits) ≡ bytes_for (length bits)
unfolding packed
length-packed bits = length-map-range_with_len (chunk bits) 0 (bytes_for (length bits))

-- Packed bits have no spare bit.
pub packed-not_spare : (bits : List Bool) → IsSpare (length bits) (packed bits) → ⊥
packed-not_spare bits spare =
    let n = length bits in let k = n / 8 in
    let part = spare.not_full in
    let last : length (packed bits) - 1 ≡ k = omega (arith, length-packed bits) in
    let rest = drop (8 * k) bits in
    let low = bits_number-below (n % 8) (take 8 rest)
    (omega (arith, length-take 8 rest, length-drop (8 * k) bits)) in
    let high : 2 ^ (n % 8) ≤ get_or (packed bits) k 0 = rw last at spare.bit in
    omega (arith, packed-at bits k 0 (omega arith))
