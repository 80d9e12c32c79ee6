-- Labels go into a circuit and labels come out: lists that stand for bits. Where circuits are joined, input wires of
-- the second take the values of output wires of the first: zero labels, bits and active labels are all handed on so.
use Rattle.std.specs.Prelude.{◌≡◌, ℕ, ◌<◌, ◌+◌, ◌-◌, ◌++◌, Bool, IsTrue, List, length, drop, slice_index, Option, Some, None}
use Rattle.gc_netlist.specs.Circuit.{Netlist, IsLawful, input_wires, output_wires}
use Rattle.gc_netlist.specs.Solution.{on_outputs}
use Rattle.gc_circuit.specs.Meaning.{IsAssignment, bits_of, AreOutputs}
use Rattle.gc_label.specs.Label.{colour}
use Rattle.gc_half.specs.declared.garbling.RowPair.{RowPair}
use Rattle.gc_half.specs.Hash.{hash, numbered_from}
use Rattle.gc_half.specs.Garbling.{IsGarbling, GarblingParts, decode_bits_of, IsGarbledFrom}
use Rattle.gc_half.specs.Evaluation.{IsEvaluation, encode, decode}
use Rattle.gc_half.specs.Law.{Decodes}

-- The labels stand for the bits, where these are the zero labels of their wires. There are as many of each.
pub record StandFor (r : ℕ) (zero_labels : List ℕ) (bits : List Bool) (labels : List ℕ)
    : Type 0 where
  pub zero_count : length zero_labels ≡ length bits
  pub count : length labels ≡ length bits
  pub each : (i : ℕ) → i < length bits
      → slice_index labels i ≡ encode r (slice_index zero_labels i) (bits_of bits i)

-- The zero labels of the output wires, in order.
abbrev pub output_zero_labels : GarblingParts → List ℕ
output_zero_labels g = drop (length g.zero_labels - g.outputs) g.zero_labels

-- The labels of the output wires are active ones: those of an evaluation of the rows on these labels of the input
-- wires, where AND gates are numbered from `first` on.
pub record AreOutputLabels (first : ℕ) (c : Netlist) (rows : List RowPair)
    (inputs outputs : List ℕ) : Type 0 where
  pub active : ℕ → ℕ
  pub evaluation : IsEvaluation (numbered_from first hash) c rows (slice_index inputs) active
  pub last : outputs ≡ on_outputs c active

-- The law of labels. Take an offset of colour 1, a lawful circuit, zero labels of its input wires, and the number of
-- the first AND gate; a garbling from them, and labels of the input wires that stand for bits. Then the output labels
-- of an evaluation stand for the circuit's output bits, and decode to them. So they may go into another circuit under
-- this offset: there they stand for the same bits.
abbrev pub LabelsLaw : Type 0
LabelsLaw =
    (offset : ℕ) → IsTrue (colour offset) → (c : Netlist) → IsLawful c
    → (zero_labels : List ℕ) (first : ℕ) (g : GarblingParts)
    → IsGarbledFrom offset (slice_index zero_labels) first c g
    → (bits : List Bool) → length bits ≡ input_wires c
    → (inputs : List ℕ) → StandFor offset zero_labels bits inputs
    → (labels : List ℕ) → AreOutputLabels first c g.rows inputs labels
    → (outputs : List Bool) → AreOutputs c bits outputs
    → StandFor offset (output_zero_labels g) outputs labels
    × (decode (decode_bits_of g) labels ≡ outputs)

-- The law of labels together: labels that stand for bits, one list after another, stand for these bits.
abbrev pub TogetherLaw : Type 0
TogetherLaw =
    (offset : ℕ) (zero_labels others : List ℕ) (bits other_bits : List Bool)
    (labels other_labels : List ℕ) → StandFor offset zero_labels bits labels
    → StandFor offset others other_bits other_labels
    → StandFor offset (zero_labels ++ others) (bits ++ other_bits) (labels ++ other_labels)

-- Which output of the first circuit an input wire of the second takes, if it takes one. Several may take the same.
abbrev pub Joint : Type 0
Joint = ℕ → Option ℕ

-- There are the outputs that are taken.
abbrev pub IsJoint : Netlist → Netlist → Joint → Type 0
IsJoint before c joint = (w i : ℕ) → w < input_wires c → joint w ≡ Some i → i < output_wires before

-- The value of an output: that of its wire.
abbrev pub of_output : {A : Type 0} → Netlist → (ℕ → A) → ℕ → A
of_output c values i = values (c.wires - output_wires c + i)

-- The value that is handed on, or the wire's own.
abbrev pub taken : {A : Type 0} → Netlist → (ℕ → A) → A → Option ℕ → A
taken before values own None = own
taken before values own (Some i) = of_output before values i

-- The values on the second circuit's input wires, from the values on the first one's wires and from its own values.
abbrev pub handed_on : {A : Type 0} → Netlist → Joint → (ℕ → A) → (ℕ → A) → ℕ → A
handed_on before joint values own w = taken before values (own w) (joint w)

-- The law of a circuit that follows another. Take any hash, offset of colour 1, lawful circuits and joint; the first
-- one's outputs stand for bits. The second is garbled with their zero labels, its AND gates numbered from any number
-- on, and evaluated on their active labels; its other input wires have zero labels and bits of their own. Then its
-- outputs stand for the bits that it computes from the first one's bits, and decode to them.
abbrev pub FollowingLaw : Type 0
FollowingLaw =
    (hash : ℕ → ℕ → ℕ) (offset : ℕ) → IsTrue (colour offset)
    → (before : Netlist) → IsLawful before → (zero_before active_before : ℕ → ℕ)
    (bits_before : ℕ → Bool) → Decodes before offset zero_before bits_before active_before
    → (c : Netlist) → IsLawful c → (joint : Joint) → IsJoint before c joint
    → (first : ℕ) (own zero_label : ℕ → ℕ) (rows : List RowPair)
    → IsGarbling (numbered_from first hash) offset c (handed_on before joint zero_before own)
    zero_label rows
    → (own_bits bits : ℕ → Bool) → IsAssignment c (handed_on before joint bits_before own_bits) bits
    → (active : ℕ → ℕ) → IsEvaluation (numbered_from first hash) c rows
    (handed_on before joint active_before (λ w. encode offset (own w) (own_bits w))) active
    → Decodes c offset zero_label bits active

-- The law of joined circuits: the same, where the first circuit too is garbled, its AND gates numbered from any number
-- on, and evaluated on labels that stand for bits.
abbrev pub JoinedLaw : Type 0
JoinedLaw =
    (hash : ℕ → ℕ → ℕ) (offset : ℕ) → IsTrue (colour offset)
    → (before : Netlist) → IsLawful before
    → (first_before : ℕ) (given zero_before : ℕ → ℕ) (rows_before : List RowPair)
    → IsGarbling (numbered_from first_before hash) offset before given zero_before rows_before
    → (input_bits bits_before : ℕ → Bool) → IsAssignment before input_bits bits_before
    → (active_before : ℕ → ℕ) → IsEvaluation (numbered_from first_before hash) before rows_before
    (λ w. encode offset (given w) (input_bits w)) active_before
    → (c : Netlist) → IsLawful c → (joint : Joint) → IsJoint before c joint
    → (first : ℕ) (own zero_label : ℕ → ℕ) (rows : List RowPair)
    → IsGarbling (numbered_from first hash) offset c (handed_on before joint zero_before own)
    zero_label rows
    → (own_bits bits : ℕ → Bool) → IsAssignment c (handed_on before joint bits_before own_bits) bits
    → (active : ℕ → ℕ) → IsEvaluation (numbered_from first hash) c rows
    (handed_on before joint active_before (λ w. encode offset (own w) (own_bits w))) active
    → Decodes before offset zero_before bits_before active_before
    × Decodes c offset zero_label bits active
