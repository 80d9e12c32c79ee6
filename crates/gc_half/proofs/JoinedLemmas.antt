-- The laws of circuits that follow one another, from the law of one circuit.
use Rattle.gc_half.proofs.Names.{◌≡◌, ℕ, ◌+◌, ◌-◌, ◌<◌, Bool, List, Option, Some, refl, ◌∙◌, arith, Netlist, input_wires, output_wires, IsLawful, RowPair, None, IsEvaluation, encode, Decodes, numbered_from}
use Rattle.gc_half.specs.Joined.{of_output, taken, FollowingLaw, JoinedLaw}
use Rattle.gc_half.proofs.CircuitLaw.{garbling-decodes}

module _ (r : ℕ) (before : Netlist) (lawful : IsLawful before) (zero_label active : ℕ → ℕ)
    (bits : ℕ → Bool) (decodes : Decodes before r zero_label bits active) where
  -- The active label of an output stands for its bit.
  output-stands : (i : ℕ) → i < output_wires before → of_output before active i
      ≡ encode r (of_output before zero_label i) (of_output before bits i)
  output-stands i below =
      let fit = lawful.outputs_fit in
      decodes.labels _ (lawful.outputs_set (before.wires - output_wires before + i) (omega arith)
      (omega arith))

  -- What is taken stands for the bit that is taken.
  taken-stands : (own : ℕ) (bit : Bool) (o : Option ℕ)
      → ((i : ℕ) → o ≡ Some i → i < output_wires before)
      → taken before active (encode r own bit) o
      ≡ encode r (taken before zero_label own o) (taken before bits bit o)
  taken-stands own bit None there = refl
  taken-stands own bit (Some i) there = output-stands i (there i refl)

-- An evaluation is one on other labels too that are the same on the input wires.
pub evaluation-same : (hash : ℕ → ℕ → ℕ) (c : Netlist) (rows : List RowPair) (u v active : ℕ → ℕ)
    → ((w : ℕ) → w < input_wires c → u w ≡ v w) → IsEvaluation hash c rows u active
    → IsEvaluation hash c rows v active
evaluation-same hash c rows u v active same evaluation = record {
  inputs = λ w input. evaluation.inputs w input ∙ same w input;
  gates = evaluation.gates;
}

pub following-decodes : FollowingLaw
following-decodes hash r odd before lawful_before zero_before active_before bits_before decodes c
    lawful joint is_joint first own zero_label rows garbling own_bits bits assignment active
    evaluation =
    garbling-decodes (numbered_from first hash) r odd c lawful _ zero_label rows garbling _ bits
    assignment active
    (evaluation-same (numbered_from first hash) c rows _ _ active
    (λ w input. taken-stands r before lawful_before zero_before active_before bits_before decodes
    (own w) (own_bits w) (joint w) (λ i is. is_joint w i input is)) evaluation)

pub joined-decodes : JoinedLaw
joined-decodes hash r odd before lawful_before first_before given zero_before rows_before
    garbling_before input_bits bits_before assignment_before active_before evaluation_before c lawful
    joint is_joint first own zero_label rows garbling own_bits bits assignment active evaluation =
    let decodes = garbling-decodes (numbered_from first_before hash) r odd before lawful_before
    given zero_before rows_before garbling_before input_bits bits_before assignment_before
    active_before evaluation_before in (
      decodes,
      following-decodes hash r odd before lawful_before _ _ _ decodes c lawful joint is_joint first
          own zero_label rows garbling own_bits bits assignment active evaluation,
    )
