use Rattle.gc_command.proofs.Names.{take, map, AreLabelFilesOf}
use Rattle.gc_command.proofs.seeded_circuit.SeededCircuit.own_labels.Given as goal

abbrev pub invariant-loop-i : goal.invariant-loop-i
invariant-loop-i g l =
    AreLabelFilesOf l.self.circuit.now l.self.seed.now (take l.i
    (map (λ value. value.items) l.values)) l.labels.items
