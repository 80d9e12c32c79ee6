use Rattle.gc_kept.proofs.Names.{◌≡◌, map, take, bit_number}
use Rattle.gc_kept.proofs.bits.put_bits.Given as goal

abbrev pub invariant-loop-i : goal.invariant-loop-i
invariant-loop-i l = take l.i l.bytes ≡ map bit_number (take l.i l.bits)
