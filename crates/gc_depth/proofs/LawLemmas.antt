-- Circuits that differ in the order of their gates compute the same.
use Rattle.gc_depth.proofs.Names.{Bool, List, cond, refl, ◌∙◌, sum_by-IsPermutation, Gate, Netlist, is_and, IsReordering, ComputesSame}
use Rattle.gc_circuit.specs.Meaning.{bit_rule, bits_of, AreOutputs}
use Rattle.gc_depth.proofs.ReorderLemmas.{reordering_back, solves_too}

outputs_too : (c d : Netlist) → IsReordering c d → (x outputs : List Bool) →
    AreOutputs c x outputs → AreOutputs d x outputs
outputs_too c d same x outputs h = record {
  bits = h.bits;
  assignment = solves_too bit_rule (λ v i j g. refl) c d same (bits_of x) h.bits h.assignment;
  last = h.last ∙ rw (same.wires, same.output_widths) refl;
}

pub computes_same : (c d : Netlist) → IsReordering c d → ComputesSame c d
computes_same c d same =
    let back = reordering_back c d same in
    record {
      ands = sum_by-IsPermutation (λ (g : Gate). cond (is_and g.operation) 1 0) c.gates d.gates same.gates;
      assignments = λ x bits. (
        solves_too bit_rule (λ v i j g. refl) c d same x bits,
        solves_too bit_rule (λ v i j g. refl) d c back x bits,
      );
      outputs = λ x outputs. (outputs_too c d same x outputs, outputs_too d c back x outputs);
    }
