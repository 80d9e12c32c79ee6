use Rattle.gc_kept.proofs.Names.{length-map-range_with_len, ap, length, arith}
use Rattle.gc_kept.proofs.circuit.KeptCircuit.plain.Goals as goal

pub write_bits-requires : goal.write_bits-requires
write_bits-requires c =
    omega (
      arith,
      c.in_ok-has_room.ensures.ok,
      rw length-map-range_with_len at (ap length c.in-Ok-plain_eval.ensures.last),
      ap length c.deref-3.ensures.value,
    )
