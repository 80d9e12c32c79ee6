use Rattle.std.proofs.Common.{◌≡◌, ◌≤◌, ◌++◌, length, drop}
use Rattle.halfgates_c.proofs.many.give.Given as goal

abbrev pub invariant-loop-handle : goal.invariant-loop-handle
invariant-loop-handle l = record {
  written : l.fn.handles.items ≡ l.handles.items ++ drop (length l.handles.items) l.slots;
  count : length l.slots ≡ length l.fn.handles.items;
  few : length l.handles.items ≤ length l.slots;
}

abbrev pub decreases-loop-handle : goal.decreases-loop-handle
decreases-loop-handle l = length l.handles.items
