use Rattle.gc_kept.proofs.Names.{◌≡◌, map, take, bit_number, colour}
use Rattle.gc_kept.proofs.both.put_colours.Given as goal

abbrev pub invariant-loop-i : goal.invariant-loop-i
invariant-loop-i l = take l.i l.bits ≡ map bit_number (map colour (take l.i l.labels))
