-- The labels that a garbler has on the wires of a value.
use Rattle.gc_kept.proofs.Names.{◌≡◌, ℕ, ◌+◌, ◌-◌, ◌≤◌, List, length, take, drop, refl, sym, ap, ◌∙◌, drop-drop, arith, slice_index, sum, drop-take, take-take, take-map-range_with_len, fill_by_all, Netlist, IsLawful, input_wires, output_wires, RowPair, GarblingParts, StreamingGarblerParts, IsGarbledSoFar, first_output_of}
use Rattle.gc_half.specs.Joined.{output_zero_labels}
use Rattle.gc_half.proofs.PiecesLaw.{input_labels-kept, labels-table}

module _ (c : Netlist) (lawful : IsLawful c) (given : List ℕ) (rows : List RowPair)
    (g : StreamingGarblerParts) (is : IsGarbledSoFar c given rows g) where
  -- On the input wires it has those with which it was begun,
  inputs-given : take (input_wires c) g.labels ≡ given
  inputs-given =
      let labels : ℕ → ℕ = slice_index g.labels in
      ap (take (input_wires c)) (labels-table c given rows g is)
      ∙ take-map-range_with_len labels 0 c.wires (input_wires c) lawful.inputs_fit
      ∙ sym (fill_by_all labels given (input_wires c) 0 is.inputs
      (λ k below. sym (input_labels-kept c lawful given rows g is k below)))

  pub value-given : (from width : ℕ) → from + width ≤ input_wires c
      → take width (drop from g.labels) ≡ take width (drop from given)
  value-given from width fits =
      let rest = input_wires c - from in
      let whole : input_wires c ≡ from + rest = omega arith in
      rw (← inputs-given, whole, drop-take from rest g.labels)
      (sym (take-take width rest (drop from g.labels) (omega arith)))

-- and on the output wires those of the garbling that it makes.
pub value-made : (c : Netlist) (all : GarblingParts) (labels : List ℕ) (width index : ℕ)
    → length all.zero_labels ≡ c.wires → all.outputs ≡ output_wires c
    → labels ≡ output_zero_labels all
    → take width (drop (sum (take index c.output_widths)) labels)
    ≡ take width (drop (first_output_of c index) all.zero_labels)
value-made c all labels width index wires outputs are =
    rw (are, drop-drop (sum (take index c.output_widths)), wires, outputs) refl
