use Rattle.std.proofs.Common.{arith}
use Rattle.gc_kept.proofs.PieceLemmas.{length_rows}
use Rattle.gc_kept.proofs.circuit.KeptCircuit.evaluate_labels.Goals as goal

pub write_labels-requires-clause-whole : goal.write_labels-requires-clause-whole
write_labels-requires-clause-whole c =
    let begun = c.in_ok-evaluator.ensures.ok.begun.used in
    let same = c.in_ok-evaluator.ensures.ok.circuit in
    grind (arith, length_rows)
