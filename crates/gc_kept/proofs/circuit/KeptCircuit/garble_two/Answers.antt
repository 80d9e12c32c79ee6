use Rattle.gc_kept.proofs.Names.{◌≡◌, ◌∙◌, ℕ, refl, sym, ap, slice_index, Netlist, GarblingParts, IsGarbledFrom}
use Rattle.gc_kept.specs.Circuit.{CircuitWith}
use Rattle.gc_kept.proofs.circuit.KeptCircuit.garble_two.Goals as goal

-- A garbling is that from the zero labels that it has on the input wires.
from_its_own : (r s : ℕ) (given : ℕ → ℕ) (c d : Netlist) (g : GarblingParts) → s ≡ r → d ≡ c
    → IsGarbledFrom r given 0 c g → IsGarbledFrom s (slice_index g.zero_labels) 0 d g
from_its_own r s given c d g offset circuit is =
    rw (offset, circuit) (record {
      garbling = record {
        labels = record { inputs = λ w input. refl; gates = is.garbling.labels.gates };
        and_gates = is.garbling.and_gates;
        row_count = is.garbling.row_count;
      };
      wires = is.wires;
      not_set = is.not_set;
      outputs = is.outputs;
    })

pub invariant_of-one-2 : goal.invariant_of-one-2
invariant_of-one-2 c =
    from_its_own _ _ _ _ _ _ c.offset.ensures
    (ap (λ (it : CircuitWith). it.netlist) c.in_ok-again.ensures.ok ∙ sym c.circuit.ensures.same)
    c.in-Ok.ensures.one

pub invariant_of-other-2 : goal.invariant_of-other-2
invariant_of-other-2 c =
    from_its_own _ _ _ _ _ _ c.offset-2.ensures
    (ap (λ (it : CircuitWith). it.netlist) c.in_ok-again-2.ensures.ok ∙ sym c.circuit.ensures.same)
    c.in-Ok.ensures.other
