use Rattle.gc_circuit.proofs.Names.{◌≡◌, ◌-◌, [], numbers_at, numbers_left}
use Rattle.std.specs.Vec.{vec_len}
use Rattle.gc_circuit.proofs.read.read_numbers.Given as goal

abbrev pub invariant-loop-i : goal.invariant-loop-i
invariant-loop-i g l = record {
  so_far : numbers_at (l.count - l._i) l.numbers.items l.tokens.left
      ≡ numbers_at l.count [] l.fn.tokens.left;
  left : numbers_left (l.count - l._i) l.tokens.left ≡ numbers_left l.count l.fn.tokens.left;
  len : vec_len l.numbers ≡ l._i;
  kept : l.tokens.text ≡ l.fn.tokens.text;
}
