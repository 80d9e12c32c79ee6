use Rattle.gc_circuit.proofs.Names.{◌≡◌, ◌++◌, low_bits}
use Rattle.gc_circuit.proofs.value.push_bits.Given as goal

abbrev pub invariant-loop-i : goal.invariant-loop-i
invariant-loop-i g l = l.bits.items ≡ l.initial.bits.items ++ low_bits l.fn.byte l.i
