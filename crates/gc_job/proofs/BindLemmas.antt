-- Label files in turn, and the places where they are.
use Rattle.gc_job.proofs.Names.{◌≡◌, ◌≢◌, ℕ, ◌+◌, ◌<◌, ◌≤◌, Bool, true, false, inl, inr, List, [], length, take, set, get_or, slice_get, Option, Some, None, is_some, MatchOption, not, eqb, ltb, refl, sym, ◌∙◌, arith, slice_get_within, slice_get_read, cases_eq, Decides-eqb, LabelFileParts, DoubleValue, HasFile, IsFileInOrder, AreInOrder, LabelsFault, double_value, IsFileFor, ArePlaces, get_or-set_same, get_or-set_other, length-set}
use Rattle.std.proofs.lemmas.Slice.Eq.{slice_eq-Decides}
use lib.Pointwise.{pointwise}
use borrow.Author.Tests.{ltb-true}
use Rattle.gc_job.proofs.TakeLemmas.{slice_get-take, slice_get_taken}

-- What `get` found at an index.
pub read_at : (xs : List ℕ) (i j x y : ℕ) → true ≡ ltb i (length xs) → x ≡ get_or xs i x → i ≡ j
    → y ≡ x → slice_get xs j ≡ Some y
read_at xs i j x y below at e f = rw (f, ← e)
    (slice_get_read xs (length xs) i x refl (ltb-true i (length xs) (sym below)) at)

-- What a marked place says,
place_taken : (before : List LabelFileParts) (value : ℕ) (o : Option ℕ) → is_some o ≡ true
    → MatchOption o (HasFile before value → ⊥) (IsFileFor before value) → HasFile before value
place_taken before value None is h = absurd (cc)
place_taken before value (Some place) is h =
    record { place = place; file = h.file; at = h.at; index = h.index }

-- and one that isn't.
pub place_free : (before : List LabelFileParts) (value : ℕ) (o : Option ℕ) → is_some o ≡ false
    → MatchOption o (HasFile before value → ⊥) (IsFileFor before value) → HasFile before value → ⊥
place_free before value None is h = h
place_free before value (Some place) is h = absurd (cc)

module _ (widths : List ℕ) (before : List LabelFileParts) (file : LabelFileParts)
    (places : List (Option ℕ)) (wide : length widths ≤ length places)
    (marked : ArePlaces before places)
    (at : slice_get widths file.index ≡ Some (length file.labels)) where
  inside : file.index < length places
  inside = omega (arith, slice_get_within widths file.index (length file.labels) at)

  -- A file whose value has a file already,
  pub double_value_at : is_some (get_or places file.index None) ≡ true
      → LabelsFault widths before file DoubleValue
  double_value_at is =
      double_value at (place_taken before file.index _ is (marked file.index inside))

  -- and one that is in order.
  pub in_order_at : is_some (get_or places file.index None) ≡ false
      → IsFileInOrder widths before file
  in_order_at is =
      record { width = at; first = place_free before file.index _ is (marked file.index inside) }

-- No file comes before the first, so none is marked.
pub places_none : (places : List (Option ℕ))
    → ((k : ℕ) → k < length places → get_or places k None ≡ None) → ArePlaces [] places
places_none places empty value room = rw (empty value room) (λ h. cc (h.at))

module _ (widths : List ℕ) (files : List LabelFileParts) (i : ℕ) (file : LabelFileParts)
    (at : slice_get files i ≡ Some file) where
  -- One more file is in order.
  pub in_order_more : AreInOrder widths files i → IsFileInOrder widths (take i files) file
      → AreInOrder widths files (i + 1)
  in_order_more before last k other below at_k = elim (cases_eq k i) [
    | inl same ↦ let is : file ≡ other = cc in rw (same, ← is) last
    | inr differs ↦ before k other (omega arith) at_k
  ]

  file_before : (value : ℕ) → value ≢ file.index → HasFile (take (i + 1) files) value
      → HasFile (take i files) value
  file_before value other h =
      let new = slice_get_taken (i + 1) h.place files h.file h.at in
      elim (cases_eq h.place i) [
        | inl same ↦ let is : file ≡ h.file = cc (new.1) in absurd (other (cc))
        | inr differs ↦
            let found = slice_get-take i h.place files (omega (arith, new.0)) ∙ new.1 in
            record { place = h.place; file = h.file; at = found; index = h.index }
      ]

  place_kept : (value : ℕ) (o : Option ℕ) → value ≢ file.index
      → MatchOption o (HasFile (take i files) value → ⊥) (IsFileFor (take i files) value)
      → MatchOption o (HasFile (take (i + 1) files) value → ⊥)
      (IsFileFor (take (i + 1) files) value)
  place_kept value None other h = λ has. h (file_before value other has)
  place_kept value (Some place) other h =
      let old = slice_get_taken i place files h.file h.at in
      let found = slice_get-take (i + 1) place files (omega (arith, old.0)) ∙ old.1 in
      record { file = h.file; at = found; index = h.index }

  -- Its value is marked.
  pub places_more : (places : List (Option ℕ)) → file.index < length places
      → ArePlaces (take i files) places
      → ArePlaces (take (i + 1) files) (set places file.index (Some i))
  places_more places room marked value inside = elim (cases_eq value file.index) [
    | inl same ↦
        let here = slice_get-take (i + 1) i files (omega arith) ∙ at in
        rw (same, get_or-set_same places file.index (Some i) None room)
        (record { file = file; at = here; index = refl })
    | inr other ↦ rw (get_or-set_other places file.index value (Some i) None other)
        (place_kept value _ other (marked value (rw length-set at inside)))
  ]

-- What comparing two digests says.
module _ (a b : List ℕ) (differ : Bool) (is : differ ≡ not (pointwise eqb a b)) where
  pub other_digest : differ ≡ true → a ≡ b → ⊥
  other_digest differs same =
      let e = (slice_eq-Decides Decides-eqb a b (pointwise eqb a b) refl).1 same in cc

  pub same_digest : differ ≡ false → a ≡ b
  same_digest agrees =
      (slice_eq-Decides Decides-eqb a b (pointwise eqb a b) refl).0 (grind arith)
