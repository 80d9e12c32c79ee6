use Rattle.gc_kept.proofs.Names.{◌≡◌, true, false, length, map, take, bit_number}
use Rattle.gc_kept.specs.Bits.{HasBadDigit}
use Rattle.gc_kept.proofs.bits.read_bits.Given as goal

abbrev pub invariant-loop-byte : goal.invariant-loop-byte
invariant-loop-byte l = record {
  count : length l.bits.items ≡ l.byte-index;
  bits : l.are_bits ≡ true → take l.byte-index l.bytes ≡ map bit_number l.bits.items;
  bad : l.are_bits ≡ false → HasBadDigit l.bytes;
}
