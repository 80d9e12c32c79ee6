-- Labels that are opened.
use Rattle.gc_kept.proofs.Names.{◌≡◌, ℕ, zero, suc, ◌+◌, ◌*◌, ◌<◌, ◌≤◌, Bool, true, false, not, List, [], ◌∷◌, length, take, drop, get_or, slice_get, Some, sym, ap, ◌∙◌, arith, flat_map, slice_index, drop-append-add, get_or_default, get_or-take, get_or-drop, slice_get-get_or, slice_get_within, colour, bytes_of_label, label_of_bytes, length-bytes_of_label, label_of_bytes-bytes_of_label, encode, encoded_with, items_from, items_spelled, label_spelling, take_at, AreLabels, HasWrongLabel}
use Rattle.std.proofs.Math.Bool.{beq}
use Rattle.gc_circuit.specs.Meaning.{xor}
use Rattle.gc_half.proofs.HalfGateLaw.{colour-encode}
use Rattle.gc_kept.proofs.PieceLemmas.{length_labels}

-- The bytes of the label at a place.
piece_at : (labels : List ℕ) (i : ℕ) → i < length labels
    → take 16 (drop (16 * i) (flat_map bytes_of_label labels)) ≡ bytes_of_label (get_or labels i 0)
piece_at [] i within = absurd (omega arith)
piece_at (label ∷ labels) zero within =
    take_at (bytes_of_label label) (flat_map bytes_of_label labels) 16
    (length-bytes_of_label label)
piece_at (label ∷ labels) (suc i) within =
    let place : 16 * suc i ≡ length (bytes_of_label label) + 16 * i =
    omega (arith, length-bytes_of_label label) in
    rw (place, drop-append-add (bytes_of_label label) (flat_map bytes_of_label labels) (16 * i))
    (piece_at labels i (omega arith))

-- There are 16 bytes for each label,
pub length-are : (bytes labels : List ℕ) → AreLabels bytes labels
    → length bytes ≡ 16 * length labels
length-are bytes labels are = rw are.spelled (length_labels labels)

-- which they spell,
pub labels_spelled : (bytes : List ℕ) (n : ℕ) → length bytes ≡ 16 * n
    → ((i : ℕ) → get_or bytes i 0 < 256) → (labels : List ℕ) × AreLabels bytes labels
labels_spelled bytes n long small =
    let is = items_spelled label_spelling n bytes long
    (λ k d within. rw (← get_or_default bytes k 0 d within) (small k)) in
    (items_from 16 label_of_bytes n bytes, record { spelled = sym is.0; each = is.1 })

-- and the label at a place is read from these.
pub label_read : (bytes labels : List ℕ) (i : ℕ) → AreLabels bytes labels
    → 16 * i + 16 ≤ length bytes
    → slice_get labels i ≡ Some (label_of_bytes (take 16 (drop (16 * i) bytes)))
label_read bytes labels i are room =
    let within : i < length labels = omega (arith, length-are bytes labels are) in
    rw (
      are.spelled,
      piece_at labels i within,
      label_of_bytes-bytes_of_label (get_or labels i 0) (are.each i 0 within),
    ) (slice_get-get_or labels i 0 within)

-- The colours of a label and of the zero label give the bit.
pub bit_back : (offset zero_label label : ℕ) (bit : Bool) → colour offset ≡ true
    → label ≡ encode offset zero_label bit → not (beq (colour label) (colour zero_label)) ≡ bit
bit_back offset zero_label label bit odd is =
    cases bit (colour zero_label) (colour label)
    (ap colour is ∙ colour-encode offset zero_label bit odd)
  where
    cases : (x c l : Bool) → l ≡ xor x c → not (beq l c) ≡ x
    cases x c l e = grind arith

module _ (offset : ℕ) (zero_label : ℕ → ℕ) where
  -- The label at a place stands for the bit there.
  pub encoded_at : (first : ℕ) (bits : List Bool) (i : ℕ) → i < length bits →
      slice_get (encoded_with offset zero_label first bits) i
      ≡ Some (encode offset (zero_label (first + i)) (get_or bits i false))
  encoded_at first [] i within = absurd (omega arith)
  encoded_at first (bit ∷ bits) zero within =
      ap (λ w. Some (encode offset (zero_label w) bit)) (omega arith)
  encoded_at first (bit ∷ bits) (suc i) within =
      encoded_at (first + 1) bits i (omega arith)
      ∙ ap (λ w. Some (encode offset (zero_label w) (get_or bits i false))) (omega arith)

-- Wires may be counted from the first one of a value, or from the first one of all.
pub wrong_among : (offset : ℕ) (all zeros : List ℕ) (first count : ℕ) (bytes : List ℕ)
    → zeros ≡ take count (drop first all) → length bytes ≡ 16 * count
    → HasWrongLabel offset (slice_index zeros) 0 bytes
    → HasWrongLabel offset (slice_index all) first bytes
wrong_among offset all zeros first count bytes is long w =
    let within = slice_get_within w.labels w.place w.label w.at in
    let many = length-are bytes w.labels w.labels_are in
    let place : 0 + w.place ≡ w.place = omega arith in
    let zero : slice_index zeros (0 + w.place) ≡ slice_index all (first + w.place) =
    rw (place, is) (get_or-take count (drop first all) w.place 0 (omega arith)
    ∙ get_or-drop first all w.place 0) in
    record {
      labels = w.labels;
      labels_are = w.labels_are;
      place = w.place;
      label = w.label;
      at = w.at;
      wrong = λ bit same. w.wrong bit (same ∙ ap (λ z. encode offset z bit) (sym zero));
    }
