use Rattle.halfgates_c.proofs.Names.{◌≡◌, ◌≤◌, ◌++◌, length, map, drop, handle_of}
use Rattle.halfgates_c.proofs.list.put_all.Given as goal

abbrev pub invariant-loop-borrow : goal.invariant-loop-borrow
invariant-loop-borrow l = record {
  written : map handle_of l.fn.borrows.items
      ≡ map handle_of l.borrows.items ++ drop (length l.borrows.items) l.handles;
  count : length l.handles ≡ length l.fn.borrows.items;
  few : length l.borrows.items ≤ length l.handles;
}

abbrev pub decreases-loop-borrow : goal.decreases-loop-borrow
decreases-loop-borrow l = length l.borrows.items
