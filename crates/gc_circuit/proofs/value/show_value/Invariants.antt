use Rattle.gc_circuit.proofs.Names.{◌≡◌, map, take, binary_digit}
use Rattle.gc_circuit.proofs.value.show_value.Given as goal

abbrev pub invariant-loop-bit : goal.invariant-loop-bit
invariant-loop-bit g l = l.text.items ≡ map binary_digit (take l.bit-index l.bits)
