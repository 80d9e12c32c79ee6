use Rattle.gc_command.proofs.Names.{◌≡◌, ◌∙◌, length, refl, sym, ap, flat_map-map, length-table, WiresLeft}
use Rattle.gc_command.proofs.seeded_circuit.SeededCircuit.lines_of.Goals as goal

pub invariant_of-result : goal.invariant_of-result
invariant_of-result g c =
    let as_many : c.in_ok-wires.wires.wires ≡ c.args.self.now.circuit.now.wires =
    ap (λ (w : WiresLeft). w.wires) c.in_ok-wires.ensures in (
      ap length c.into_zero_labels-zero_labels.ensures ∙ c.in-Ok.ensures.wires ∙ sym as_many,
      length-table _ c.args.self.now.circuit.now.wires _ c.in_ok-bits.ensures.in_order ∙ sym as_many,
    )

pub returns-clause-lines : goal.returns-clause-lines
returns-clause-lines g c = record {
  garbling = c.in-Ok.garbling;
  garbled = c.in-Ok.ensures;
  bits = c.in_ok-bits.bits.items;
  are_bits = rw (flat_map-map) c.in_ok-bits.ensures;
  printed = rw (c.into_zero_labels-zero_labels.ensures, c.offset.ensures, c.in_ok-wires.ensures) refl;
}
