use Rattle.gc_command.proofs.Names.{◌≡◌, ◌-◌, ◌<◌, false, length, take, filter, slice_index_or, range_with_len}
use Rattle.gc_command.proofs.set_wires.SetWires.next.Given as goal

abbrev pub invariant-loop-wire : goal.invariant-loop-wire
invariant-loop-wire g l = record {
  left : l.fn.self.left ≡ take l.self-inside.left
      (filter (λ k. slice_index_or l.self-inside.is_set.items k false)
      (range_with_len l.wire (length l.self-inside.is_set.items - l.wire)));
  wires : l.fn.self.wires ≡ length l.self-inside.is_set.items;
  same : l.wires ≡ length l.self-inside.is_set.items;
  some : 0 < l.self-inside.left;
}
