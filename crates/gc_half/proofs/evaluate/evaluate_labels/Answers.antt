use Rattle.gc_netlist.proofs.Tables.{length-table}
use Rattle.gc_half.proofs.evaluate.evaluate_labels.Goals as goal

pub output_labels-requires : goal.output_labels-requires
output_labels-requires g c =
    let are = c.in_ok-active.ensures in
    rw c.deref.ensures.value (length-table are.active c.args.circuit.now.wires _ are.table)
