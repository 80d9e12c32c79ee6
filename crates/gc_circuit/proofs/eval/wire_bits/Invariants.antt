use Rattle.gc_circuit.proofs.Names.{◌≡◌, map, flat_map, range_with_len, values_after, bits_of, bit_rule}
use Rattle.gc_circuit.proofs.eval.wire_bits.Given as goal

abbrev pub invariant-loop-i : goal.invariant-loop-i
invariant-loop-i g l = l.bits.items
    ≡ map (values_after bit_rule l.circuit (bits_of (flat_map (λ x. x.items) l.values)) l.i)
    (range_with_len 0 l.circuit.wires)
