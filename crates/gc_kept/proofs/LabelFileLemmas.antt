-- How many bytes label files have, and where values begin.
use Rattle.gc_kept.proofs.Names.{◌≡◌, ℕ, ◌+◌, ◌*◌, ◌<◌, Bool, false, List, [], ◌∷◌, ◌++◌, length, map, take, drop, get_or, refl, ap, ◌∙◌, arith, flat_map, range_with_len, slice_index, sum, length-append, length-take-le, take_more, get_or-take, get_or-drop, get_or-map-range_with_len, bytes_of_label, length-bytes_of_label, Netlist, number_bytes, label_parts_with, encoded_with, encoded_with-append, length-encoded_with, input_label_of, encode, length-number_bytes, length-flat_map}
use Rattle.gc_file.specs.LabelFile.{label_file}

pub length-file : (index : ℕ) (labels : List ℕ)
    → length (label_file (record { index = index; labels = labels })) ≡ 16 + 16 * length labels
unfolding label_file
length-file index labels =
    omega (
      arith,
      length-append (number_bytes index ++ number_bytes (length labels))
          (flat_map bytes_of_label labels),
      length-append (number_bytes index) (number_bytes (length labels)),
      length-number_bytes index,
      length-number_bytes (length labels),
      length-flat_map bytes_of_label 16 length-bytes_of_label labels,
    )

-- So many bytes has a file that is dealt.
pub length-dealt : (c : Netlist) (offset : ℕ) (zero_label : ℕ → ℕ) (index : ℕ) (bits : List Bool)
    → length (label_file (label_parts_with c offset zero_label index bits)) ≡ 16 + 16 * length bits
length-dealt c offset zero_label index bits =
    let first = sum (take index c.input_widths) in
    rw length-file (ap (λ n. 16 + 16 * n) (length-encoded_with offset zero_label first bits))

module _ (offset : ℕ) where
  -- One more label that stands for a bit.
  pub encoded_next : (zero_label : ℕ → ℕ) (first : ℕ) (bits : List Bool) (i label : ℕ)
      → i < length bits → label ≡ encode offset (zero_label (first + i)) (get_or bits i false)
      → encoded_with offset zero_label first (take i bits) ++ label ∷ []
      ≡ encoded_with offset zero_label first (take (i + 1) bits)
  encoded_next zero_label first bits i label within is =
      rw (
        take_more bits i false within,
        encoded_with-append offset zero_label first (take i bits),
        length-take-le i bits (omega arith),
        ← is,
      ) refl

  -- Where wires are counted from doesn't matter.
  pub encoded_shift : (f g : ℕ → ℕ) (a b : ℕ) (bits : List Bool)
      → ((i : ℕ) → i < length bits → f (a + i) ≡ g (b + i))
      → encoded_with offset f a bits ≡ encoded_with offset g b bits
  encoded_shift f g a b [] same = refl
  encoded_shift f g a b (bit ∷ bits) same =
      let here : f a ≡ g b = ap f (omega arith) ∙ same 0 (omega arith) ∙ ap g (omega arith) in
      rw (
        here,
        encoded_shift f g (a + 1) (b + 1) bits (λ i below.
            ap f (omega arith) ∙ same (i + 1) (omega arith) ∙ ap g (omega arith)),
      ) refl

  -- So the labels are those that are dealt: under a seed,
  pub dealt_under : (seed zeros : List ℕ) (first : ℕ) (bits : List Bool)
      → zeros ≡ map (input_label_of seed) (range_with_len first (length bits))
      → encoded_with offset (slice_index zeros) 0 bits
      ≡ encoded_with offset (input_label_of seed) first bits
  dealt_under seed zeros first bits is =
      encoded_shift (slice_index zeros) (input_label_of seed) 0 first bits (λ i below.
      rw is (get_or-map-range_with_len (input_label_of seed) first (length bits) (0 + i) _ 0
      (omega arith) (omega arith)))

  -- and from a garbling.
  pub dealt_from : (all zeros : List ℕ) (first : ℕ) (bits : List Bool)
      → zeros ≡ take (length bits) (drop first all)
      → encoded_with offset (slice_index zeros) 0 bits
      ≡ encoded_with offset (slice_index all) first bits
  dealt_from all zeros first bits is =
      encoded_shift (slice_index zeros) (slice_index all) 0 first bits (λ i below.
      let place : 0 + i ≡ i = omega arith in
      rw (place, is) (get_or-take (length bits) (drop first all) i 0 below
      ∙ get_or-drop first all i 0))
