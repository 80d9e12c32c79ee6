use Rattle.gc_half.proofs.Names.{◌≡◌, map, range_with_len, and_number}
use Rattle.gc_half.proofs.numbers.and_numbers.Given as goal

abbrev pub invariant-loop-i : goal.invariant-loop-i
invariant-loop-i g l = record {
  written : l.numbers.items ≡ map (and_number l.circuit) (range_with_len 0 l.i);
  next : l.next ≡ and_number l.circuit l.i;
}
