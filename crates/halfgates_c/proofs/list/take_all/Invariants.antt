use Rattle.halfgates_c.proofs.Names.{◌≡◌, ◌++◌, length, map, drop, handle_of}
use Rattle.std.specs.Vec.{vec_len, vec_capacity}
use Rattle.halfgates_c.proofs.list.take_all.Given as goal

abbrev pub invariant-loop-i : goal.invariant-loop-i
invariant-loop-i l = record {
  taken : l.fn.handles ≡ map handle_of l.borrows.items ++ drop l.i l.handles;
  count : length l.handles ≡ length l.fn.handles;
  made : vec_len l.borrows ≡ l.i;
  room : vec_capacity l.borrows ≡ length l.fn.handles;
}
