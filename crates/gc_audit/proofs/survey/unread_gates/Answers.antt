use Rattle.gc_audit.proofs.Names.{◌≡◌, false, slice_index_or, ap, ◌∙◌, arith, length-table, read-table, is_read, is_unread}
use Rattle.gc_audit.proofs.CountLemmas.{count_more}
use Rattle.std.proofs.lemmas.Bool.Decides.{nat_tests}
use Rattle.gc_audit.proofs.survey.unread_gates.Goals as goal

pub bounds-read-gate : goal.bounds-read-gate
bounds-read-gate g c = omega (
  arith,
  length-table (is_read c.args.circuit.now.gates) c.args.circuit.now.wires c.args.read.now
      c.requires,
  c.wires.ensures.lawful.sets c.loop-i.i c.gate-gate.result c.gate-gate.ensures,
)

pub loop-i-preserved : goal.loop-i-preserved
loop-i-preserved g c =
    let circuit = c.args.circuit.now in
    let gate = c.gate-gate.result in
    let in_table : slice_index_or c.args.read.now gate.set false ≡ is_read circuit.gates gate.set =
    ap (λ t. slice_index_or t gate.set false) c.requires
    ∙ read-table (is_read circuit.gates) circuit.wires gate.set false
    (c.wires.ensures.lawful.sets c.loop-i.i gate c.gate-gate.ensures) in
    let outputs_fit = c.wires.ensures.lawful.outputs_fit in
    count_more circuit.gates c.loop-i.i gate c.gate-gate.ensures (is_unread circuit)
    _ _ c.loop-i.invariant (grind (arith, nat_tests))
