use Rattle.gc_file.proofs.ReaderNames.{◌≡◌, map, range_with_len, bit_in}
use Rattle.gc_file.proofs.body.unpacked.Given as goal

abbrev pub invariant-loop-i : goal.invariant-loop-i
invariant-loop-i g l = l.bits.items ≡ map (bit_in l.bytes) (range_with_len 0 l.i)
