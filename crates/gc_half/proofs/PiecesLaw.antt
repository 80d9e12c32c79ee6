-- The laws of pieces: those that leave are part of a garbling, and those that come are enough for the labels so far.
use Rattle.gc_half.proofs.Names.{◌≡◌, ℕ, zero, suc, ◌+◌, ◌-◌, ◌<◌, ◌≤◌, ◌++◌, inl, List, length, map, take, take_all, slice_index, refl, sym, ap, subst, ◌∙◌, arith, Netlist, IsLawful, IsSet, IsSetBefore, IsSetBefore-more, output_wires, and_count, agree, after-keeps, solution_solves, RowPair, GarblingParts, range_with_len, fill_by_all, values_after, on_outputs, read-table, IsSetBefore-below, label_of, hash, numbered_from, IsGarbledFrom, output_zero_labels, StreamingGarblerParts, IsGarbledSoFar}
use Rattle.gc_half.specs.Streaming.{GarbledPiecesLaw, InputLabelsLaw, EvaluatedPiecesLaw}
use Rattle.gc_half.proofs.CircuitLaw.{active_local}
use Rattle.gc_half.proofs.GarblingLemmas.{zero_local, IsGarbling-same}
use Rattle.gc_half.proofs.LabelsLemmas.{output_zero_labels-are}
use Rattle.gc_half.proofs.PieceLemmas.{active_after-same}
use Rattle.gc_half.proofs.RowLemmas.{rows-take, rows}
use Rattle.gc_half.proofs.StreamingLemmas.{garbler-count}

module _ (c : Netlist) (lawful : IsLawful c) (given : List ℕ) (rows : List RowPair)
    (g : StreamingGarblerParts) (is : IsGarbledSoFar c given rows g) (all : GarblingParts)
    (garbled : IsGarbledFrom g.offset (slice_index given) g.first c all) where
  abbrev h : ℕ → ℕ → ℕ
  h = numbered_from g.first hash

  -- The zero labels are those of the garbling.
  same-label : (w : ℕ) → IsSet c w → slice_index all.zero_labels w ≡ label_of h g.offset c given w
  unfolding label_of values_after
  same-label =
      agree _ (zero_local h g.offset c) c lawful (slice_index given) _ _ garbled.garbling.labels
      (solution_solves _ (zero_local h g.offset c) c lawful (slice_index given))

  first-rows : rows ≡ take g.made all.rows
  first-rows =
      is.garbled.row_pairs
      ∙ sym (rows-take h g.offset c _ _ all.rows
      (IsGarbling-same h g.offset c lawful _ _ _ _ same-label garbled.garbling) g.gates)
      ∙ ap (λ n. take n all.rows) (sym (garbler-count c given rows g is))

  all-rows : g.made ≡ and_count c → rows ≡ all.rows
  all-rows whole =
      first-rows ∙ take_all g.made all.rows (omega (arith, whole, garbled.garbling.row_count))

  -- A wire that is set has its zero label in the table.
  label-there : (w : ℕ) → IsSetBefore c g.gates w
      → slice_index g.labels w ≡ slice_index all.zero_labels w
  unfolding label_of values_after
  label-there w set =
      is.garbled.right w
      ∙ sym (after-keeps _ (zero_local h g.offset c) c lawful (slice_index given) g.gates
      (length c.gates) w is.gates set)
      ∙ sym (same-label w (IsSetBefore-more c g.gates (length c.gates) w is.gates set))

pub garbled_pieces : GarbledPiecesLaw
garbled_pieces c lawful given rows g is all garbled = record {
  first_rows = first-rows c lawful given rows g is all garbled;
  all_rows = all-rows c lawful given rows g is all garbled;
  labels = label-there c lawful given rows g is all garbled;
}

-- A gate sets no input wire.
pub input_labels-kept : InputLabelsLaw
unfolding values_after
input_labels-kept c lawful given rows g is w input =
    is.garbled.right w
    ∙ after-keeps _ (zero_local (numbered_from g.first hash) g.offset c) c lawful
    (slice_index given) 0 g.gates w (omega arith) (inl input)

pub labels-table : (c : Netlist) (given : List ℕ) (rows : List RowPair)
    (g : StreamingGarblerParts) → IsGarbledSoFar c given rows g
    → g.labels ≡ map (slice_index g.labels) (range_with_len 0 c.wires)
labels-table c given rows g is =
    fill_by_all (slice_index g.labels) g.labels c.wires 0 is.wires (λ k below. refl)

map-same : (u v : ℕ → ℕ) (first count : ℕ) → ((w : ℕ) → first ≤ w → w < first + count → u w ≡ v w)
    → map u (range_with_len first count) ≡ map v (range_with_len first count)
map-same u v first zero same = refl
map-same u v first (suc count) same =
    let rest = map-same u v (first + 1) count
    (λ w low high. same w (omega arith) (omega arith)) in
    grind (arith, same first, rest)

-- Once all gates are garbled, the zero labels of the output wires are those of the garbling.
pub outputs-same : (c : Netlist) → IsLawful c → (given : List ℕ) (rows : List RowPair)
    (g : StreamingGarblerParts) → IsGarbledSoFar c given rows g → (all : GarblingParts)
    → IsGarbledFrom g.offset (slice_index given) g.first c all → g.gates ≡ length c.gates
    → on_outputs c (slice_index g.labels) ≡ output_zero_labels all
outputs-same c lawful given rows g is all garbled whole =
    map-same (slice_index g.labels) (slice_index all.zero_labels) (c.wires - output_wires c)
    (output_wires c)
    (λ w low high. label-there c lawful given rows g is all garbled w
    (subst (λ k. IsSetBefore c k w) (sym whole)
    (lawful.outputs_set w (omega (arith, low)) (omega (arith, high, lawful.outputs_fit)))))
    ∙ sym (output_zero_labels-are g.offset g.first c lawful (slice_index given) all garbled)

pub evaluated_pieces : EvaluatedPiecesLaw
evaluated_pieces c lawful inputs rows e is rest active evaluation w set =
    let h = numbered_from e.first hash in
    let local = active_local h c (rows ++ rest) in
    let given = slice_index inputs in
    let solves = solution_solves _ local c lawful given in
    rw (is.labels, active_after-same h c given rows rest e.gates (omega (arith, is.reached)))
    (read-table _ c.wires w 0 (IsSetBefore-below c lawful e.gates w set)
    ∙ sym (after-keeps _ local c lawful given e.gates (length c.gates) w is.gates set)
    ∙ sym (agree _ local c lawful given active _ evaluation solves w
    (IsSetBefore-more c e.gates (length c.gates) w is.gates set)))
