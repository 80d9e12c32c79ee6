use Rattle.gc_circuit.proofs.Names.{◌≡◌, map, take, range_with_len, list_all, Binary, is_binary_digit, wire_bit}
use Rattle.gc_circuit.proofs.value.read_binary.Given as goal

abbrev pub invariant-loop-digit : goal.invariant-loop-digit
invariant-loop-digit g l = record {
  digits : list_all is_binary_digit (take l.digit-index l.digits) ≡ l.are_digits;
  bits : l.bits.items ≡ map (wire_bit (Binary l.digits)) (range_with_len 0 l.digit-index);
}
