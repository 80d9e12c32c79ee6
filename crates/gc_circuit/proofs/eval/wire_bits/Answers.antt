use Rattle.gc_circuit.proofs.Names.{◌≡◌, ◌<◌, length, flat_map, ◌∙◌, ap, arith, EachRead-map, length-table, EachRead-below}
use Rattle.gc_circuit.proofs.BitLemmas.{bits_end, length_joined}
use Rattle.gc_circuit.proofs.eval.wire_bits.Goals as goal

pub operation_bit-requires : goal.operation_bit-requires
operation_bit-requires g c =
    let l = ap length c.deref.ensures.value ∙ length-table _ _ _ c.loop-i.invariant in
    EachRead-map (λ w. w < c.args.circuit.now.wires)
    (λ w. w < length c.deref.result.now) c.gate-gate.result.operation
    (λ w h. omega (arith, l, h))
    (EachRead-below c.args.circuit.now c.wires.ensures.lawful c.loop-i.i c.gate-gate.result
    c.gate-gate.ensures)

pub returns : goal.returns
returns g c =
    let e = length_joined (λ v. v.items) _ _ c.requires in
    let whole : c.loop-i.i ≡ length c.args.circuit.now.gates = omega arith in
    bits_end c.args.circuit.now (flat_map (λ v. v.items) c.args.values.now) c.loop-i.bits.items
    c.wires.ensures.lawful e (rw (← whole) c.loop-i.invariant)
