use Rattle.gc_circuit.proofs.Names.{◌≡◌, ◌*◌, ◌≤◌, ◌<◌, ℕ, true, false, map, take, min, range_with_len, list_all, Hexadecimal, has_spare_bit, wire_bit}
use Rattle.hex.specs.Hex.{is_hex_digit}
use Rattle.gc_circuit.proofs.value.read_hexadecimal.Given as goal

abbrev pub invariant-loop-k : goal.invariant-loop-k
invariant-loop-k g l = record {
  digits : list_all is_hex_digit (take (2 * l.k) l.digits) ≡ l.are_digits;
  bits : l.bits.items
      ≡ map (wire_bit (Hexadecimal l.digits)) (range_with_len 0 (min (8 * l.k) l.width));
  unused : l.has_spare_bit ≡ false →
      (i : ℕ) → l.width ≤ i → i < 8 * l.k → wire_bit (Hexadecimal l.digits) i ≡ false;
  spare : l.has_spare_bit ≡ true → has_spare_bit l.width (Hexadecimal l.digits) ≡ true;
}
