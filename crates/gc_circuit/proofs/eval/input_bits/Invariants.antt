use Rattle.gc_circuit.proofs.Names.{◌≡◌, take, flat_map}
use Rattle.gc_circuit.proofs.eval.input_bits.Given as goal

abbrev pub invariant-loop-value : goal.invariant-loop-value
invariant-loop-value g l = l.bits.items ≡ flat_map (λ v. v.items) (take l.value-index l.values)
