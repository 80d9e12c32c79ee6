use Rattle.halfgates_c.proofs.Names.{arith, length-map}
use Rattle.std.proofs.lemmas.List.FromFn.{length-range_with_len}
use Rattle.halfgates_c.proofs.wires.write.Goals as goal

-- A bit for each wire.
pub write_wires-requires-clause-bits : goal.write_wires-requires-clause-bits
write_wires-requires-clause-bits c =
    let all = c.in_ok-all.ensures.ok.meaning in
    grind (arith, all.in_order, c.deref.ensures.value, length-map, length-range_with_len)

pub write_wires-requires-clause-few : goal.write_wires-requires-clause-few
write_wires-requires-clause-few c = grind (arith, write_wires-requires-clause-bits c)
