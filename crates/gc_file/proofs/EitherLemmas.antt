-- Bytes are a garbled file or have a first fault.
use Rattle.gc_file.proofs.Names.{◌≡◌, ℕ, ◌-◌, ◌*◌, ◌%◌, ◌^◌, ◌≤◌, ◌⊎◌, inl, inr, List, ◌++◌, length, take, drop, Bool, true, false, bytes_eq, slice_index, refl, sym, ◌∙◌, append_assoc, arith, cases_lt, take-append-drop, take-take, take_all, length-take, length-drop, length-take-le, MAX_GATES, MAX_WIRES, FileFault, BadMagic, Truncated, Trailing, CountTooLarge, SpareBits, BadTrailer, Version, bytes_for, GarbledParts, magic, entry_count, IsGarbledFile, MatchesMagic, row_count, output_count, decode_end, trailer_end, IsTrailerRight, HasHeader, HasSpareBit, HasDecodeBits, LastingFault, bad_magic, too_many_rows, too_many_outputs, spare_bits, bad_trailer, trailing, IsHeaderInOrder, IsInOrder, FirstGarbledFault, lasting, truncated, version_of_bytes, row_size, decode_size, entry_size, AreBytes, One, Two}
use Rattle.gc_file.proofs.StepLemmas.{version_of_bytes-begun}
use Rattle.std.specs.Bool.{Decides}
use Rattle.std.proofs.lemmas.Slice.Eq.{bytes_eq-Decides}
use Rattle.gc_file.proofs.PlaceLemmas.{IsDecoded, begins, begun, rows_is, outputs_is, spare, is_right}
use Rattle.gc_file.proofs.FileLemmas.{file_is}
use Rattle.gc_file.proofs.ItemLemmas.{small, AreBytes-take, AreBytes-drop, items_spelled, row_spelling, entry_spelling}
use Rattle.gc_file.proofs.OneFile.{header_in, after_rows, after_decode, parts_in}

-- Bytes that are in order and end where the trailer does
module _ (v : Version) (b : List ℕ) (are : AreBytes b) (in_order : IsInOrder v b)
    (exact : length b ≡ trailer_end v b) where
  -- are these parts,
  abbrev h : List ℕ
  h = header_in b

  abbrev r : List ℕ
  r = take (row_size h) (drop 48 b)

  abbrev d : List ℕ
  d = take (decode_size h) (after_rows b)

  abbrev e : List ℕ
  e = take (entry_size h) (after_decode b)

  abbrev t : List ℕ
  t = drop (entry_size h) (after_decode b)

  cut : h ++ r ++ d ++ e ++ t ≡ b
  cut = simp (append_assoc, take-append-drop)

  -- whose sizes are what the header says,
  whole : length h ≡ 48
  whole = length-take-le 48 b (omega arith)

  magic_is : take 8 h ≡ magic v
  magic_is = take-take 8 48 b (omega arith) ∙ begins v b (omega arith) in_order.header.begun

  version : version_of_bytes h ≡ v
  version = version_of_bytes-begun v h magic_is

  rows : row_count h ≡ row_count b
  rows = sym (rw cut at (rows_is h r d e t whole))

  outputs : output_count h ≡ output_count b
  outputs = sym (rw cut at (outputs_is h r d e t whole))

  sizes : (row_size h ≡ 32 * row_count b) × (decode_size h ≡ bytes_for (output_count b))
      × (entry_size h ≡ 32 * entry_count v (output_count b))
  sizes = rw (version, rows, outputs) (refl, refl, refl)

  decoded : IsDecoded h r d
  decoded = record {
    header = whole;
    rows = omega (arith, sizes, length-take {A = ℕ}, length-drop {A = ℕ});
    decode = omega (arith, sizes, length-take {A = ℕ}, length-drop {A = ℕ});
  }

  entries_full : length e ≡ entry_size h
  entries_full = omega (arith, sizes, length-take {A = ℕ}, length-drop {A = ℕ})

  trailer_full : length t ≡ 32
  trailer_full = omega (arith, sizes, length-drop {A = ℕ})

  -- and so are a file.
  whole_file : IsGarbledFile b (parts_in b)
  unfolding parts_in
  whole_file =
      let are_rest = AreBytes-drop 48 b are in
      let are_decode = AreBytes-drop (row_size h) (drop 48 b) are_rest in
      let are_entries = AreBytes-drop (decode_size h) (after_rows b) are_decode in
      let row_items = items_spelled row_spelling (row_count h) r decoded.rows
      (AreBytes-take (row_size h) (drop 48 b) are_rest) in
      let entry_items = items_spelled entry_spelling (entry_count (version_of_bytes h)
      (output_count h)) e
      entries_full (AreBytes-take (entry_size h) (after_decode b) are_entries) in
      rw cut at (file_is h r d e t (parts_in b) decoded
      (grind (arith, whole, version, rows, outputs, begun v h, magic_is))
      entries_full
      (λ is. in_order.no_spare_bit (omega arith) (rw cut at (spare h r d e t decoded is)))
      (sym (take_all 32 t (omega (arith, trailer_full)))
      ∙ is_right h r d e t decoded entries_full (rw (cut, version) (in_order.right (omega arith))))
      (small h (AreBytes-take 48 b are))
      (small d (AreBytes-take (decode_size h) (after_rows b) are_decode)) refl refl
      row_items.0 entry_items.0 refl row_items.1 entry_items.1)

-- ---- the decision

-- Two lists differ or are the same.
pub other_or_same : (xs ys : List ℕ) → (xs ≡ ys → ⊥) ⊎ (xs ≡ ys)
other_or_same xs ys = decided (bytes_eq xs ys) (bytes_eq-Decides xs ys)
  where
    decided : (same : Bool) → Decides same (xs ≡ ys) → (xs ≡ ys → ⊥) ⊎ (xs ≡ ys)
    decided true is = inr (is.0 refl)
    decided false is = inl (λ e. absurd (cc (is.1 e)))

-- Bytes come to an end and something is bad there, or it is good as far as they come.
reached : {Bad Good : Type 0} (end long : ℕ) → Bad ⊎ Good
    → ((end ≤ long) × Bad) ⊎ (end ≤ long → Good)
reached end long (inr good) = inr (λ far. good)
reached end long (inl bad) = elim (cases_lt long end) [
  | inl short ↦ inr (λ far. absurd (omega arith))
  | inr far ↦ inl (far, bad)
]

spare_or_not : (b : List ℕ) → HasSpareBit b ⊎ (HasSpareBit b → ⊥)
spare_or_not b = elim (cases_lt 0 (output_count b % 8)) [
  | inr full ↦ inr (λ is. omega arith)
  | inl part ↦ elim (cases_lt (slice_index b (decode_end b - 1)) (2 ^ (output_count b % 8))) [
    | inl low ↦ inr (λ is. omega arith)
    | inr high ↦ inl (record { not_full = part; bit = high })
  ]
]

right_or_not : (v : Version) (b : List ℕ) → (IsTrailerRight v b → ⊥) ⊎ IsTrailerRight v b
right_or_not v b = other_or_same _ _

abbrev pub Judged : List ℕ → Type 0
Judged b = ((p : GarbledParts) × IsGarbledFile b p) ⊎ ((e : FileFault) × FirstGarbledFault b e)

fault : {b : List ℕ} (e : FileFault) → LastingFault b e → Judged b
fault e is = inr (e, lasting e is)

module _ (v : Version) (b : List ℕ) (are : AreBytes b) where
  judged_order : IsInOrder v b → Judged b
  judged_order in_order = elim (cases_lt (length b) (trailer_end v b)) [
    | inl less ↦ inr (Truncated, truncated v in_order less)
    | inr reaches ↦ inl (parts_in b, whole_file v b are in_order (omega (arith, in_order.ends)))
  ]

  judged_header : IsHeaderInOrder v b → Judged b
  judged_header header = elim (reached (decode_end b) (length b) (spare_or_not b)) [
    | inl spare ↦ fault SpareBits (spare_bits v (has (omega (arith, spare.0))) spare.0 spare.1)
    | inr no_spare ↦ elim (reached (trailer_end v b) (length b) (right_or_not v b)) [
      | inl wrong ↦ fault BadTrailer
          (bad_trailer v (decoded no_spare (omega (arith, wrong.0))) wrong.0 wrong.1)
      | inr right ↦ elim (cases_lt (trailer_end v b) (length b)) [
        | inl more ↦ fault Trailing
            (trailing v (decoded no_spare (omega arith)) more (right (omega arith)))
        | inr within ↦ judged_order (record {
          header = header;
          no_spare_bit = no_spare;
          right = right;
          ends = λ _. within;
        })
      ]
    ]
  ]
    where
      has : 48 ≤ length b → HasHeader v b
      has whole = grind (arith, begins)

      decoded : (decode_end b ≤ length b → HasSpareBit b → ⊥) → decode_end b ≤ length b
          → HasDecodeBits v b
      decoded none reaches = grind (arith, has)

  judged_begun : MatchesMagic (magic v) b → Judged b
  judged_begun begun = elim (reached 44 (length b) (cases_lt MAX_GATES (row_count b))) [
    | inl many ↦ fault CountTooLarge
        (too_many_rows v (begins v b (omega (arith, many.0)) begun) many.0 many.1)
    | inr few_rows ↦ elim (reached 48 (length b) (cases_lt MAX_WIRES (output_count b))) [
      | inl many ↦ fault CountTooLarge
          (too_many_outputs v (begins v b (omega (arith, many.0)) begun) many.0 many.1)
      | inr few_outputs ↦ judged_header
          (record { begun = begun; few_rows = few_rows; few_outputs = few_outputs })
    ]
  ]

-- Bytes are a file or have a first fault.
pub judged : (b : List ℕ) → AreBytes b → Judged b
judged b are =
    elim (other_or_same (take 8 b) (take (length b) (magic One))) [
      | inr one ↦ judged_begun One b are one
      | inl other ↦ elim (other_or_same (take 8 b) (take (length b) (magic Two))) [
        | inr two ↦ judged_begun Two b are two
        | inl neither ↦ fault BadMagic (bad_magic (both other neither))
      ]
    ]
  where
    both : (MatchesMagic (magic One) b → ⊥) → (MatchesMagic (magic Two) b → ⊥)
        → (v : Version) → MatchesMagic (magic v) b → ⊥
    both other neither One = other
    both other neither Two = neither
