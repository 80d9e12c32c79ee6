use Rattle.gc_store.proofs.Names.{◌≡◌, ℕ, ◌+◌, ◌<◌, ◌≤◌, Some, length, replicate, slice_get}
use Rattle.gc_store.specs.declared.gate_state.GateState.TheVariants as mark
use Rattle.gc_store.proofs.queue.Queue.open.Given as goal

-- the gates before have been counted down
abbrev pub invariant-loop-gate : goal.invariant-loop-gate
invariant-loop-gate g l = record {
  marks : l.queue.marks ≡ replicate l.gates mark.Free;
  count : length l.queue.countdowns ≡ length l.fn.countdowns.items;
  earlier : (k n : ℕ) → k < l.gate → slice_get l.fn.countdowns.items k ≡ Some (n + 1)
      → slice_get l.queue.countdowns k ≡ Some n;
  later : (k : ℕ) → l.gate ≤ k → slice_get l.queue.countdowns k ≡ slice_get l.fn.countdowns.items k;
}
