use Rattle.gc_half.proofs.GarbleLemmas.{inputs-padded}
use Rattle.gc_half.proofs.labels.input_zero_labels.Goals as goal

pub returns : goal.returns
returns g c =
    inputs-padded c.args.circuit.now c.wires.ensures.lawful c.args.seed.now _ _ _ c.wires.result
    c.in_ok-labels.ensures c.in_ok-labels.labels.ok.0 c.wires.ensures.count
    c.in_ok-resize.ensures.items
