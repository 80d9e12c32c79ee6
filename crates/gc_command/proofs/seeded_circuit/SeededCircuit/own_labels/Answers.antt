use Rattle.gc_command.proofs.Names.{arith}
use Rattle.gc_command.proofs.OwnFilesLemmas.{value-at, labels-more, own-width}
use Rattle.gc_command.proofs.seeded_circuit.SeededCircuit.own_labels.Goals as goal

pub own_label_file-requires : goal.own_label_file-requires
own_label_file-requires g c =
    let at = value-at (λ value. value.items) c.args.values.now c.loop-i.i c.index-values-i.result
    (omega arith) c.index-values-i.is in
    rw c.deref.ensures.value (own-width c.args.self.now.circuit.now _ c.requires _ _ at)

pub loop-i-preserved : goal.loop-i-preserved
loop-i-preserved g c =
    let at = value-at (λ value. value.items) c.args.values.now c.loop-i.i c.index-values-i.result
    (omega arith) c.index-values-i.is in
    rw c.in_ok-push.ensures.items
    (labels-more _ _ c.loop-i.invariant at
    (rw c.deref.ensures.value at c.in_ok-own_label_file.ensures.parts))
