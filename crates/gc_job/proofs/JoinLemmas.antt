-- Labels of files joined in the order of their values.
use Rattle.gc_job.proofs.Names.{◌≡◌, ℕ, zero, suc, ◌+◌, ◌<◌, true, false, List, [], ◌∷◌, ◌++◌, length, map, sum, take, drop, get_or, slice_get, Option, Some, None, is_none, is_some, flat_map, MatchOption, IsSomeAnd, refl, sym, ap, ◌∙◌, arith, list_any, sum-map, sum_by-cons, flat_map-append, length-flat_map, slice_get_within, get_or_from_slice_get, LabelFileParts, MissingValue, HasFile, AreInOrder, FirstLabelsFault, missing_value, AreBound, IsFileFor, ArePlaces, labels_at, take_at, drop_at, drop-drop, length-map, length-take, get_or-take, take_more, append-nil, same_lists, get_or-map, get_or_default}
use Rattle.std.proofs.lemmas.List.Folds.{list_any_at, Any-from_list_any}
use Rattle.gc_job.proofs.TakeLemmas.{slice_get-take}
use Rattle.gc_job.proofs.BindLemmas.{place_free}

-- The places of the first n values.
pub places_front : (files : List LabelFileParts) (places : List (Option ℕ)) (n : ℕ)
    → ArePlaces files places → ArePlaces files (take n places)
places_front files places n marked value room =
    let long = length-take n places in
    rw (get_or-take n places value None (omega arith)) (marked value (omega arith))

-- The labels of one more place.
pub joined_more : (files : List LabelFileParts) (places : List (Option ℕ)) (i k : ℕ)
    (file : LabelFileParts) → i < length places → get_or places i None ≡ Some k
    → slice_get files k ≡ Some file → flat_map (labels_at files) (take i places) ++ file.labels
    ≡ flat_map (labels_at files) (take (i + 1) places)
joined_more files places i k file room is at = rw (
  take_more places i None room,
  flat_map-append (labels_at files) (take i places) (get_or places i None ∷ []),
  is,
  at,
) (sym (ap (λ ls. flat_map (labels_at files) (take i places) ++ ls) (append-nil file.labels)))

module _ {X : Type 0} (f : X → List ℕ) where
  -- The k-th list of those joined stands where the lengths before it end.
  joined-at : (xs : List X) (k : ℕ) (d : X) → k < length xs →
      take (length (f (get_or xs k d)))
      (drop (sum (take k (map (λ x. length (f x)) xs))) (flat_map f xs)) ≡ f (get_or xs k d)
  joined-at [] k d room = absurd (omega arith)
  joined-at (x ∷ xs) zero d room = take_at (f x) (flat_map f xs) (length (f x)) refl
  joined-at (x ∷ xs) (suc k) d room =
      rw (
        sum_by-cons (λ m. m) (length (f x)) (take k (map (λ y. length (f y)) xs)),
        ← drop-drop (sum (take k (map (λ y. length (f y)) xs))) (length (f x))
            (f x ++ flat_map f xs),
        drop_at (f x) (flat_map f xs) (length (f x)) refl,
      ) (joined-at xs k d (omega arith))

module _ (widths : List ℕ) (files : List LabelFileParts)
    (in_order : AreInOrder widths files (length files)) where
  -- A file has the width of its value.
  width_at : (k : ℕ) (file : LabelFileParts) → slice_get files k ≡ Some file
      → slice_get widths file.index ≡ Some (length file.labels)
  width_at k file at = (in_order k file (slice_get_within files k file at) at).width

  -- No two files are for one value.
  not_before : (i k : ℕ) (file other : LabelFileParts) → slice_get files i ≡ Some file
      → slice_get files k ≡ Some other → file.index ≡ other.index → k < i → ⊥
  not_before i k file other at at_k same below =
      let before = slice_get-take i k files below ∙ at_k in
      (in_order i file (slice_get_within files i file at) at).first
      (record { place = k; file = other; at = before; index = sym same })

  one_file : (i k : ℕ) (file other : LabelFileParts) → slice_get files i ≡ Some file
      → slice_get files k ≡ Some other → file.index ≡ other.index → i ≡ k
  one_file i k file other at at_k same = omega (
    arith,
    not_before i k file other at at_k same,
    not_before k i other file at_k at (sym same),
  )

  -- Where a place is missing, so is a file.
  pub missing_file : (places : List (Option ℕ)) → length places ≡ length widths
      → ArePlaces files places → list_any is_none places ≡ true
      → FirstLabelsFault widths files MissingValue
  missing_file places count marked missing =
      let some = Any-from_list_any is_none places missing in
      let none = ap is_none (get_or_default places some.0 None some.1 some.2 ∙ some.3) ∙ some.4 in
      let gap : is_some (get_or places some.0 None) ≡ false = grind (arith, none) in
      missing_value some.0 in_order (omega (arith, count, some.2))
      (place_free files some.0 (get_or places some.0 None) gap (marked some.0 some.2))

  module _ (places : List (Option ℕ)) (count : length places ≡ length widths)
      (marked : ArePlaces files places) (whole : list_any is_none places ≡ false) where
    -- Each value has a file, at its place.
    has_place : (value : ℕ) → value < length places
        → (k : ℕ) × (get_or places value None ≡ Some k) × IsFileFor files value k
    has_place value room = at (get_or places value None) refl (marked value room)
      where
        at : (o : Option ℕ) → get_or places value None ≡ o
            → MatchOption o (HasFile files value → ⊥) (IsFileFor files value)
            → (k : ℕ) × (get_or places value None ≡ Some k) × IsFileFor files value k
        at None is h =
            let missing = list_any_at is_none places value None room (ap is_none is) in
            absurd (cc)
        at (Some k) is h = (k, is, h)

    labels-at : (k : ℕ) (file : LabelFileParts) → slice_get files k ≡ Some file
        → labels_at files (get_or places file.index None) ≡ file.labels
    labels-at k file at =
        let within = slice_get_within widths file.index (length file.labels) (width_at k file at) in
        let place = has_place file.index (omega arith) in
        let same = one_file k place.0 file place.2.file at place.2.at (sym place.2.index) in
        rw (place.1, ← same, at) refl

    abbrev size : Option ℕ → ℕ
    size o = length (labels_at files o)

    lengths-widths : map size places ≡ widths
    lengths-widths = same_lists (map size places) widths (length-map places size ∙ count) at
      where
        at : (value d : ℕ) → value < length (map size places)
            → get_or (map size places) value d ≡ get_or widths value d
        at value d room =
            let inside : value < length places = omega (arith, length-map places size) in
            let place = has_place value inside in
            get_or-map size places value None d inside
            ∙ rw (place.1, place.2.at) refl
            ∙ sym (get_or_from_slice_get widths value (length place.2.file.labels) d
            (ap (slice_get widths) (sym place.2.index) ∙ width_at place.0 place.2.file place.2.at))

    -- So their labels, joined, are bound.
    pub joined-bound : (labels : List ℕ) → labels ≡ flat_map (labels_at files) places
        → AreBound widths files labels
    joined-bound labels is = record {
      in_order = in_order;
      whole = λ value room.
          let place = has_place value (omega (arith, count)) in
          record { place = place.0; file = place.2.file; at = place.2.at; index = place.2.index };
      count = ap length is ∙ length-flat_map (labels_at files) places ∙ sym (sum-map size places)
          ∙ ap sum lengths-widths;
      from_files = λ k file at.
          let within = slice_get_within widths file.index _ (width_at k file at) in
          rw (is, ← lengths-widths, ← labels-at k file at)
          (joined-at (labels_at files) places file.index None (omega arith));
    }

    -- And each place has a file.
    pub places-inside : (value : ℕ) (d : Option ℕ) → value < length places
        → IsSomeAnd (get_or places value d) (λ k. k < length files)
    places-inside value d room =
        let place = has_place value room in
        rw (get_or_default places value d None room, place.1)
        (slice_get_within files place.0 place.2.file place.2.at)
