use Rattle.gc_half.proofs.Names.{IfOk-weaker, length-table}
use Rattle.gc_half.proofs.StreamingLemmas.{seed-others, seed-garbled}
use Rattle.gc_half.proofs.garble.garble_one_thread.Goals as goal

pub garble_over-requires-clause-wires : goal.garble_over-requires-clause-wires
garble_over-requires-clause-wires g c =
    length-table _ c.args.circuit.now.wires _ c.in_ok-labels.ensures

pub garble_over-requires-clause-others : goal.garble_over-requires-clause-others
garble_over-requires-clause-others g c =
    seed-others c.args.circuit.now c.law_lawful.ensures c.args.seed.now _ c.in_ok-labels.ensures

pub returns : goal.returns
returns g c =
    IfOk-weaker c.garble_over.result _ _
    (seed-garbled c.args.circuit.now c.law_lawful.ensures c.args.seed.now _ c.in_ok-labels.ensures _
    c.offset.ensures)
    c.garble_over.ensures
