-- What an audit of a label file finds, from what it finds of the labels.
use Rattle.gc_audit.proofs.Names.{◌≡◌, ◌≢◌, ◌↔◌, ℕ, zero, suc, ◌+◌, ◌<◌, Bool, true, false, List, [], ◌∷◌, ◌++◌, length, length-append, take, slice_get, get_or, ltb, Some, refl, sym, ap, subst, ◌∙◌, arith, take_more, slice_get_within, slice_get_read, get_or_from_slice_get, IsTrue, Netlist, input_wires, encode, GarblingParts, LabelFileParts, encoded_with, Bits, WrongLabel, WrongWidth, NoValue, first_wire_of, HasInputLabels, IsDealtWith, IsFirstWrong, IsVerdictWith, IsVerdictFrom, HasBits}
use borrow.Author.Tests.{ltb-true}
use Rattle.gc_circuit.specs.Meaning.{xor}
use Rattle.gc_label.specs.Label.{colour}
use Rattle.gc_half.proofs.HalfGateLaw.{colour-encode}
use Rattle.gc_file.proofs.DealLemmas.{encoded_with-append, length-encoded_with}
use Rattle.gc_audit.specs.declared.labels.LabelsVerdict.{LabelsVerdict}

-- A label stands for one bit: the two labels of a wire have different colours.
encode-same : (offset label : ℕ) (x y : Bool) → colour offset ≡ true
    → encode offset label x ≡ encode offset label y → x ≡ y
encode-same offset label x y odd same =
    cases (colour label) x y
    (sym (colour-encode offset label x odd) ∙ ap colour same ∙ colour-encode offset label y odd)
  where
    cases : (c x y : Bool) → xor x c ≡ xor y c → x ≡ y
    cases c x y e = grind arith

module _ (offset : ℕ) (zero_label : ℕ → ℕ) where
  -- So labels stand for one list of bits.
  encoded-same : IsTrue (colour offset) → (first : ℕ) (xs ys : List Bool) → length xs ≡ length ys
      → encoded_with offset zero_label first xs ≡ encoded_with offset zero_label first ys → xs ≡ ys
  encoded-same odd first [] [] len same = refl
  encoded-same odd first [] (y ∷ ys) len same = cc
  encoded-same odd first (x ∷ xs) [] len same = cc
  encoded-same odd first (x ∷ xs) (y ∷ ys) len same =
      let one = encode-same offset (zero_label first) x y odd cc in
      let rest = encoded-same odd (first + 1) xs ys (omega arith) cc in
      cc

  -- The label at a place stands for the bit there.
  encoded-at : (first : ℕ) (bits : List Bool) (i : ℕ) → i < length bits →
      slice_get (encoded_with offset zero_label first bits) i
      ≡ Some (encode offset (zero_label (first + i)) (get_or bits i false))
  encoded-at first [] i within = absurd (omega arith)
  encoded-at first (bit ∷ bits) zero within =
      ap (λ w. Some (encode offset (zero_label w) bit)) (omega arith)
  encoded-at first (bit ∷ bits) (suc i) within =
      encoded-at (first + 1) bits i (omega arith)
      ∙ ap (λ w. Some (encode offset (zero_label w) (get_or bits i false))) (omega arith)

  -- One label more.
  pub encoded-more : (first : ℕ) (labels : List ℕ) (bits more : List Bool) (i label : ℕ)
      (bit : Bool)
      → take i labels ≡ encoded_with offset zero_label first bits → length bits ≡ i
      → slice_get labels i ≡ Some label
      → label ≡ encode offset (zero_label (first + i)) bit → more ≡ bits ++ bit ∷ []
      → (take (i + 1) labels ≡ encoded_with offset zero_label first more) × (length more ≡ i + 1)
  encoded-more first labels bits more i label bit read count at is pushed = (
    rw (
      take_more labels i label (slice_get_within labels i label at),
      get_or_from_slice_get labels i label label at,
      read,
      pushed,
      encoded_with-append offset zero_label first bits (bit ∷ []),
      count,
      is,
    ),
    ap length pushed ∙ omega (arith, length-append bits (bit ∷ [])),
  )

-- What `get` found at an index.
pub found_at : (xs ys : List ℕ) (i j x y : ℕ) → true ≡ ltb i (length xs) → x ≡ get_or xs i x
    → xs ≡ ys
    → i ≡ j → y ≡ x → slice_get ys j ≡ Some y
found_at xs ys i j x y below at same place e =
    rw (← same, ← place, e)
    (slice_get_read xs (length xs) i x refl (ltb-true i (length xs) (sym below)) at)

module _ (c : Netlist) (offset : ℕ)
    (labels : ℕ → ℕ) (g : GarblingParts) (has : HasInputLabels c g labels)
    (wire zero_label : ℕ) (input : wire < input_wires c)
    (at : slice_get g.zero_labels wire ≡ Some zero_label) where
  zero_is : zero_label ≡ labels wire
  zero_is = sym (get_or_from_slice_get g.zero_labels wire zero_label 0 at) ∙ has wire input

  -- What a label stands for by the zero label of an input wire, it stands for by other labels that agree,
  pub by_labels : (label : ℕ) (bit : Bool) → label ≡ encode offset zero_label bit
      → label ≡ encode offset (labels wire) bit
  by_labels label bit is = rw zero_is at is

  -- and so for none.
  pub none_by_labels : (label : ℕ) → ((bit : Bool) → label ≢ encode offset zero_label bit)
      → (bit : Bool)
      → label ≢ encode offset (labels wire) bit
  none_by_labels label none = rw zero_is at none

module _ (c : Netlist) (offset : ℕ) (odd : IsTrue (colour offset))
    (zero_label : ℕ → ℕ) (file : LabelFileParts) where
  -- A dealer's file has as many labels as bits.
  length-dealt : (bits : List Bool) → IsDealtWith c offset zero_label file bits
      → length file.labels ≡ length bits
  length-dealt bits dealt =
      rw dealt.parts (length-encoded_with offset zero_label (first_wire_of c file.index) bits)

  -- It has no wrong label.
  dealt-right : (bits : List Bool) (wire : ℕ) → IsDealtWith c offset zero_label file bits
      → IsFirstWrong offset zero_label (first_wire_of c file.index) file.labels wire → ⊥
  dealt-right bits wire dealt wrong =
      let first = first_wire_of c file.index in let i = wrong.place in
      let within = slice_get_within file.labels i wrong.label wrong.at in
      let read = encoded-at offset zero_label first bits i
      (omega (arith, length-dealt bits dealt)) in
      let filed = ap (λ (f : LabelFileParts). slice_get f.labels i) dealt.parts in
      wrong.wrong (get_or bits i false) (rw wrong.wire_at (cc (read, filed, wrong.at)))

  -- The verdict is bits exactly where the file is the dealer's for them.
  pub verdict-dealt : {A : Type 0} (verdict : LabelsVerdict A)
      → IsVerdictWith c offset zero_label file verdict
      → (bits : List Bool) → HasBits verdict bits ↔ IsDealtWith c offset zero_label file bits
  verdict-dealt NoValue is bits = (
    λ h. absurd h,
    λ dealt. absurd (omega
        (arith, slice_get_within c.input_widths file.index (length bits) dealt.width)),
  )
  verdict-dealt WrongWidth is bits = (
    λ h. absurd h,
    λ dealt. is.2 (cc (length-dealt bits dealt, is.1, dealt.width)),
  )
  verdict-dealt (WrongLabel wire) is bits =
      (λ h. absurd h, λ dealt. dealt-right bits wire dealt is.1)
  verdict-dealt (Bits found) is bits = (
    λ same. subst (IsDealtWith c offset zero_label file) same is,
    λ dealt.
        encoded-same offset zero_label odd (first_wire_of c file.index) found.items bits
        (sym (length-dealt found.items is) ∙ length-dealt bits dealt)
        (ap (λ (f : LabelFileParts). f.labels) (sym is.parts ∙ dealt.parts)),
  )

  -- The verdict on a file, from that on its labels.
  pub compared-verdict : {A : Type 0} (verdict : LabelsVerdict A) (first index : ℕ)
      → slice_get c.input_widths file.index ≡ Some (length file.labels)
      → first ≡ first_wire_of c index → index ≡ file.index
      → IsVerdictFrom offset zero_label first file.labels verdict
      → IsVerdictWith c offset zero_label file verdict
  compared-verdict NoValue first index width place same is = absurd is
  compared-verdict WrongWidth first index width place same is = absurd is
  compared-verdict (WrongLabel wire) first index width place same is =
      (width, rw (← same, ← place) is)
  compared-verdict (Bits bits) first index width place same is =
      let labels : file.labels
      ≡ encoded_with offset zero_label (first_wire_of c file.index) bits.items =
      rw (← same, ← place) is in
      record {
        width = width ∙ ap Some
            (ap length labels ∙ length-encoded_with offset zero_label _ bits.items);
        parts = rw (← labels);
      }
