-- The garbling of a circuit under a seed, as functions: it is one, and there is no other.
use Rattle.gc_half.proofs.Names.{◌≡◌, ℕ, ◌<◌, inl, ⊎_elim, Bool, List, length, map, slice_get, slice_index, Some, refl, sym, ap, ◌∙◌, arith, nat_tests, Gate, Netlist, input_wires, output_wires, IsLawful, IsSet, and_number, and_count, Solves, solution_solves, colour, offset_of, input_label_of, RowPair, zero_of, zero_rule, IsGarbling, GarblingParts, decode_bits_of, IsGarbled, input_zero, garbling_of, fill_by_all, length-map-range_with_len, IsAssignment, read-table, table_end, IsSetBefore-below, hash, IsEvaluation, encode, decode_bits, Decodes}
use Rattle.gc_label.proofs.SeedLemmas.{colour-offset_of}
use Rattle.gc_half.specs.Canonical.{zero_label_of, row_pairs_of, active_label_of}
use Rattle.gc_half.specs.Law.{HasOneGarbled}
use Rattle.gc_half.proofs.CircuitLaw.{active_local, garbling-decodes}
use Rattle.gc_half.proofs.NumberedLemmas.{IsGarbling-zero, zero-IsGarbling}
use Rattle.gc_half.proofs.SetWires.{set_or_not, not_set_before}
use Rattle.gc_half.proofs.GarblingLemmas.{zero_local, IsGarbling-same, rows-garbling, one_garbling}

-- Parts are equal where each part is.
pub parts-same : (g : GarblingParts) (zero_labels : List ℕ) (rows : List RowPair) (outputs : ℕ)
    → g.zero_labels ≡ zero_labels → g.rows ≡ rows
    → g.outputs ≡ outputs → g ≡ record { zero_labels = zero_labels; rows = rows; outputs = outputs }
parts-same g zero_labels rows outputs p q o = λ t.
    record { zero_labels = p t; rows = q t; outputs = o t }

module _ (c : Netlist) (seed : List ℕ) where
  -- A wire that is not set has the zero label 0.
  pub zero_label_of-not_set : (w : ℕ) → ¬ IsSet c w → zero_label_of c seed w ≡ 0
  unfolding zero_label_of
  zero_label_of-not_set w unset =
      let other : ¬ (w < input_wires c) = λ input. unset (inl input) in
      not_set_before _ c _ w (length c.gates) unset ∙ grind (arith, nat_tests)

  module _ (lawful : IsLawful c) where
    solves : Solves (zero_rule hash (offset_of seed) c) c (input_zero c seed) (zero_label_of c seed)
    unfolding zero_label_of
    solves = solution_solves _ (zero_local hash (offset_of seed) c) c lawful (input_zero c seed)

    -- An input wire has its input label,
    pub zero_label_of-input : (w : ℕ) → w < input_wires c
        → zero_label_of c seed w ≡ input_label_of seed w
    zero_label_of-input w input = solves.inputs w input ∙ grind (arith, nat_tests)

    -- and the wire that a gate sets has the label that the gate's equation says.
    pub zero_label_of-gate : (i : ℕ) (g : Gate) → slice_get c.gates i ≡ Some g
        → zero_label_of c seed g.set
        ≡ zero_of hash (offset_of seed) (zero_label_of c seed) (and_number c i) g.operation
    zero_label_of-gate = solves.gates

    -- So these labels and rows are a garbling.
    pub canonical-garbling : IsGarbling hash (offset_of seed) c (input_label_of seed)
        (zero_label_of c seed) (row_pairs_of c seed)
    unfolding row_pairs_of
    canonical-garbling =
        rows-garbling hash (offset_of seed) c lawful _ _
        (record { inputs = zero_label_of-input; gates = zero_label_of-gate })

    -- There is a row pair for each AND gate, and there are no others.
    pub length-row_pairs_of : length (row_pairs_of c seed) ≡ and_count c
    length-row_pairs_of = canonical-garbling.row_count

    -- The garbling, whole, is the garbling of the circuit under the seed,
    pub garbling_of-IsGarbled : IsGarbled c seed (garbling_of c seed)
    garbling_of-IsGarbled =
        let read = read-table (zero_label_of c seed) c.wires in
        record {
          garbling =
              zero-IsGarbling hash (offset_of seed) c _ _ _
              (IsGarbling-same hash (offset_of seed) c lawful _ _ _ _
              (λ w set. sym (read w 0 (IsSetBefore-below c lawful _ w set))) canonical-garbling);
          wires = length-map-range_with_len (zero_label_of c seed) 0 c.wires;
          not_set = λ w below unset. read w 0 below ∙ zero_label_of-not_set w unset;
          outputs = refl;
        }

    -- and it is the only one.
    pub IsGarbled-same : (g : GarblingParts) → IsGarbled c seed g → g ≡ garbling_of c seed
    IsGarbled-same g garbled =
        let only = one_garbling hash (offset_of seed) c lawful (input_label_of seed) in
        let is = IsGarbling-zero hash (offset_of seed) c _ _ _ garbled.garbling in
        parts-same g _ _ _
        (fill_by_all (zero_label_of c seed) g.zero_labels c.wires 0 garbled.wires
        (λ w below. ⊎_elim (only.same_labels _ _ _ _ is canonical-garbling w)
        (λ unset. garbled.not_set w below unset ∙ sym (zero_label_of-not_set w unset))
        (set_or_not c w)))
        (only.same_rows _ _ _ _ is canonical-garbling) garbled.outputs

    -- Its decode bits are the colours of the output wires' zero labels,
    pub IsGarbled-decode_bits : (g : GarblingParts) → IsGarbled c seed g
        → decode_bits_of g ≡ decode_bits c (zero_label_of c seed)
    IsGarbled-decode_bits g garbled =
        let label = zero_label_of c seed in
        rw (IsGarbled-same g garbled, length-map-range_with_len label 0 c.wires)
        (ap (map colour) (table_end label c.wires (output_wires c) lawful.outputs_fit))

    -- and what its rows evaluate to, on labels that stand for input bits, decodes to the output bits.
    pub canonical-decodes : (input_bits bits : ℕ → Bool) → IsAssignment c input_bits bits
        → (active : ℕ → ℕ) → IsEvaluation hash c (row_pairs_of c seed)
        (λ w. encode (offset_of seed) (input_label_of seed w) (input_bits w)) active
        → Decodes c (offset_of seed) (zero_label_of c seed) bits active
    canonical-decodes =
        garbling-decodes hash _ (colour-offset_of seed) c lawful _ _ _ canonical-garbling

    pub one_garbled : HasOneGarbled c seed
    one_garbled = record { computed = garbling_of-IsGarbled; no_other = IsGarbled-same }

-- The active labels are those of an evaluation.
pub active_labels-solve : (c : Netlist) (rows : List RowPair) (inputs : List ℕ) → IsLawful c
    → IsEvaluation hash c rows (slice_index inputs) (active_label_of c rows inputs)
unfolding active_label_of
active_labels-solve c rows inputs lawful = solution_solves _ (active_local hash c rows) c lawful _
