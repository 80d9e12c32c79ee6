use Rattle.std.proofs.Common.{◌≡◌, ◌*◌, true, length, take, drop}
use Rattle.std.specs.List.{list_all}
use Rattle.hex.specs.Hex.{is_hex_digit, decode_pairs}
use Rattle.hex.proofs.Pairs.{prepend}
use Rattle.gc_label.proofs.seed.Seed.from_hex.Given as goal

abbrev pub invariant-loop-i : goal.invariant-loop-i
invariant-loop-i l = record {
  long : length l.bytes ≡ 32;
  digits : list_all is_hex_digit (take (2 * l.i) l.digits) ≡ l.are_digits;
  bytes : l.are_digits ≡ true → decode_pairs 0 l.digits
      ≡ prepend (take l.i l.bytes) (decode_pairs (2 * l.i) (drop (2 * l.i) l.digits));
}
