-- Bits on their way into bytes.
use Rattle.gc_file.proofs.Names.{◌≡◌, ℕ, suc, ◌+◌, ◌*◌, ◌^◌, ◌<◌, ◌≤◌, min, nat_cmp, Bool, true, false, List, ◌∷◌, ◌++◌, length, length-take, length-drop, take, drop, flat_map, get_or, slice_get, Some, append-nil, refl, arith, drop-cons, length-map, get_or-drop, get_or-take, length-map-range_with_len, get_or-map-range_with_len, slice_get_within, get_or_from_slice_get, bytes_of_label, GarblingParts, decode_bits_of, EntryPair, bits_number, entry_bytes, entry_pair_of, entry_pairs_from, entry_pairs_of, nat_tests}
use mir.Val.{bool_byte}
use Rattle.std.specs.Ordering.{ord_min}
use Rattle.gc_half.specs.Entry.{entry_of}
use Rattle.gc_file.proofs.ListLemmas.{flat_map-ranges}
use Rattle.gc_file.proofs.PackLemmas.{bits_number-below}

-- The lesser of two numbers, as code takes it.
pub ord_min-nat : (a b : ℕ) → ord_min nat_cmp a b ≡ min a b
ord_min-nat a b = grind (arith, nat_tests)

-- Without the first of its bits a byte is below 2 ^ 7.
pub bits_number-later : (bits : List Bool) (first i : ℕ) → 0 < i →
    bits_number (drop i (take 8 (drop first bits))) < 2 ^ 7
bits_number-later bits first i some = bits_number-below 7 (drop i (take 8 (drop first bits)))
    (omega (arith, length-drop i (take 8 (drop first bits)), length-take 8 (drop first bits)))

-- The last bits of a byte, from one that is among the first eight from a place on.
pub bits_number-last : (bits : List Bool) (first i : ℕ) (bit : Bool)
    → slice_get bits (first + i) ≡ Some bit → i < 8 →
    bits_number (drop i (take 8 (drop first bits)))
    ≡ bool_byte bit + 2 * bits_number (drop (suc i) (take 8 (drop first bits)))
bits_number-last bits first i bit at low =
    let byte = take 8 (drop first bits) in
    let here = slice_get_within bits (first + i) bit at in
    rw (
      drop-cons byte i false (omega (arith, length-take 8 (drop first bits), length-drop first bits)),
      get_or-take 8 (drop first bits) i false low,
      get_or-drop,
      get_or_from_slice_get bits (first + i) bit false at,
    )
    (cases bit (drop (suc i) byte))
  where
    cases : (bit : Bool) (rest : List Bool) →
        bits_number (bit ∷ rest) ≡ bool_byte bit + 2 * bits_number rest
    cases bit rest = grind arith

-- There are as many decode bits as output wires.
pub length-decode_bits : (g : GarblingParts) → g.outputs ≤ length g.zero_labels
    → length (decode_bits_of g) ≡ g.outputs
length-decode_bits g fits = simp (length-map, length-drop) (omega arith)

pub bool_byte-le : (bit : Bool) → bool_byte bit ≤ 1
bool_byte-le bit = grind arith

-- The entry pairs, one for each output wire.
pub length-entry_pairs : (offset : ℕ) (g : GarblingParts)
    → length (entry_pairs_of offset g) ≡ g.outputs
length-entry_pairs offset g = length-map-range_with_len (entry_pair_of offset g) 0 g.outputs

pub entry_pairs-at : (offset : ℕ) (g : GarblingParts) (i : ℕ) (d : EntryPair) → i < g.outputs →
    get_or (entry_pairs_of offset g) i d ≡ entry_pair_of offset g i
entry_pairs-at offset g i d within =
    get_or-map-range_with_len (entry_pair_of offset g) 0 g.outputs i i d within (omega arith)

module _ (offset : ℕ) (g : GarblingParts) where
  -- The bytes of entry pairs, and those of the pairs after them,
  pub entries-more : (first m n j k : ℕ) {pairs : List EntryPair}
      → pairs ≡ entry_pairs_from offset g j n → j ≡ first + m → k ≡ m + n →
      flat_map entry_bytes (entry_pairs_from offset g first m) ++ flat_map entry_bytes pairs
      ≡ flat_map entry_bytes (entry_pairs_from offset g first k)
  entries-more first m n j k is at all =
      rw is (flat_map-ranges entry_bytes (entry_pair_of offset g) first m n j k at all)

  -- or of the one after them.
  pub entries-one : (first m i k : ℕ) {entry_zero entry_one : ℕ} {made : List ℕ}
      → made ≡ bytes_of_label entry_zero ++ bytes_of_label entry_one
      → entry_zero ≡ entry_of offset g i false → entry_one ≡ entry_of offset g i true
      → i ≡ first + m → k ≡ m + 1 →
      flat_map entry_bytes (entry_pairs_from offset g first m) ++ made
      ≡ flat_map entry_bytes (entry_pairs_from offset g first k)
  entries-one first m i k is is_zero is_one at all =
      rw (is, is_zero, is_one) (simp append-nil at (entries-more first m 1 i k refl at all))
