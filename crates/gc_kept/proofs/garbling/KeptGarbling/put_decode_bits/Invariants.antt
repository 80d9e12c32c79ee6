use Rattle.gc_kept.proofs.Names.{◌≡◌, length, map, take, bit_number, decode_bits_of}
use Rattle.gc_kept.proofs.garbling.KeptGarbling.put_decode_bits.Given as goal

abbrev pub invariant-loop-i : goal.invariant-loop-i
invariant-loop-i l = record {
  done : take l.i l.bits ≡ map bit_number (take l.i (decode_bits_of l.self.garbling));
  count : length l.bits ≡ l.self.garbling.outputs;
}
