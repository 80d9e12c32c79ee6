use Rattle.gc_half.proofs.Names.{IfOk-weaker, length-table}
use Rattle.gc_half.proofs.StreamingLemmas.{padded-others, padded-garbled}
use Rattle.gc_half.proofs.garble.garble_from.Goals as goal

pub garble_over-requires-clause-wires : goal.garble_over-requires-clause-wires
garble_over-requires-clause-wires g c =
    length-table _ c.args.circuit.now.wires _ (rw c.wires.ensures.count at c.in_ok-labels.ensures)

pub garble_over-requires-clause-others : goal.garble_over-requires-clause-others
garble_over-requires-clause-others g c =
    padded-others c.args.circuit.now c.law_lawful.ensures c.args.start.zero_labels.now _ c.requires
    (rw c.wires.ensures.count at c.in_ok-labels.ensures)

pub returns : goal.returns
returns g c =
    IfOk-weaker c.garble_over.result _ _
    (padded-garbled c.args.circuit.now c.law_lawful.ensures c.args.start.zero_labels.now _ c.requires
    (rw c.wires.ensures.count at c.in_ok-labels.ensures) _ _)
    c.garble_over.ensures
