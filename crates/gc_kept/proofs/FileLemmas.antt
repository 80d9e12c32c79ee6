-- Label files that follow one another.
use Rattle.gc_kept.proofs.Names.{refl, sum_by_more_le, ◌≡◌, ℕ, ◌+◌, ◌<◌, ◌≤◌, List, [], ◌∷◌, ◌++◌, length, map, take, sym, ap, ◌∙◌, append_assoc, append-nil, arith, flat_map, sum, slice_index, All, take_more, take_all, length-append, length-map, length-take-le, map-append, nil_from_length, sum-map, All-push, LabelFileParts, IsLabelFile, file_length, IsOwnFile, HasFaultyFile, flat_map-append}
use Rattle.std.proofs.lemmas.List.Concat.{length-flat_map}
use Rattle.gc_file.specs.declared.fault.FileFault.{FileFault}
use Rattle.gc_file.specs.FileFault.{FirstLabelFault}
use Rattle.gc_file.specs.LabelFile.{label_file}

-- After the things so far come these elements.
module _ {X Y : Type 0} (elements_of : X → List Y) (all : List Y) (lengths : List ℕ) (xs : List X)
    (rest : List Y) (i : ℕ) (spelled : all ≡ flat_map elements_of xs ++ rest)
    (lengths_of : take i lengths ≡ map (λ x. length (elements_of x)) xs)
    (whole : length all ≡ sum lengths) where
  counted : length all ≡ sum (take i lengths) + length rest
  counted =
      rw (
        spelled,
        lengths_of,
        length-append (flat_map elements_of xs) rest,
        length-flat_map elements_of xs,
        sum-map (λ x. length (elements_of x)) xs,
      ) refl

  -- They are enough for the next thing,
  pub enough : i < length lengths → slice_index lengths i ≤ length rest
  enough within = omega (arith, counted, sum_by_more_le (λ x. x) lengths i 0 within)

  -- or there is no next one, and none is left.
  pub ended : length lengths ≤ i → all ≡ flat_map elements_of xs
  ended none =
      let left : length rest ≡ 0 = omega (arith, rw (take_all i lengths none) at counted) in
      rw (spelled, nil_from_length rest left) (append-nil (flat_map elements_of xs))

-- After the files so far come these bytes, and the next one is at their front.
module _ (bytes lengths : List ℕ) (files : List LabelFileParts) (rest : List ℕ) (i : ℕ)
    (spelled : bytes ≡ flat_map label_file files ++ rest)
    (lengths_of : take i lengths ≡ map file_length files) (whole : All IsOwnFile files)
    (front back : List ℕ) (split : rest ≡ front ++ back) (within : i < length lengths)
    (long : length front ≡ slice_index lengths i) where
  next_length : take (i + 1) lengths ≡ map file_length files ++ length front ∷ []
  next_length = rw (take_more lengths i 0 within, lengths_of, long)

  -- It has a fault,
  pub faulty : (fault : FileFault) → FirstLabelFault front fault
      → HasFaultyFile bytes lengths fault
  faulty fault first = record {
    files = files;
    piece = front;
    others = back;
    spelled = rw (spelled, split) (sym (append_assoc (flat_map label_file files) front back));
    lengths_of =
        let count : length files ≡ i = omega (
          arith,
          ap length lengths_of,
          length-map files file_length,
          length-take-le i lengths (omega arith),
        ) in
        rw count next_length;
    whole = whole;
    first = first;
  }

  -- or is a file.
  pub grown : (file : LabelFileParts) → IsLabelFile front file
      → (bytes ≡ flat_map label_file (files ++ file ∷ []) ++ back)
      × (take (i + 1) lengths ≡ map file_length (files ++ file ∷ []))
      × All IsOwnFile (files ++ file ∷ [])
  grown file is = (
    rw (
      spelled,
      split,
      is.spelled,
      flat_map-append label_file files (file ∷ []),
      append-nil (label_file file),
      append_assoc (flat_map label_file files) (label_file file) back,
    ),
    next_length ∙ rw (is.spelled, map-append file_length files (file ∷ [])) refl,
    All-push IsOwnFile files file whole (rw (← is.spelled) is),
  )
