use Rattle.std.proofs.Common.{arith}
use Rattle.gc_kept.proofs.PieceLemmas.{value-fits}
use Rattle.gc_kept.proofs.garbling.KeptGarbling.input_zero_labels.Goals as goal

pub labels_of-requires : goal.labels_of-requires
labels_of-requires c =
    let circuit = c.args.self.now.circuit in
    let fits = value-fits circuit.input_widths c.args.index c.args.width c.requires in
    let lawful = rw c.circuit.ensures.netlist at c.circuit-2.ensures.lawful in
    let room = lawful.inputs_fit in
    grind arith

pub returns-clause-labels : goal.returns-clause-labels
returns-clause-labels c =
    rw (← c.self.view_is) (rw (
      c.zero_labels.ensures,
      c.first_wire-from.ensures,
      c.circuit-2.ensures.same,
      c.circuit.ensures.netlist,
      ← c.self.view_is,
    ) at c.labels_of.ensures.labels)
