use Rattle.std.proofs.Common.{◌≡◌, ◌≤◌, length}
use Rattle.gc_store.proofs.QueueLemmas.{IsFreedFrom}
use Rattle.gc_store.proofs.queue.Queue.reopen.Given as goal

-- the gates gone through are not claimed
abbrev pub invariant-loop-gate : goal.invariant-loop-gate
invariant-loop-gate g l = record {
  within : l.gate ≤ length l.fn.self.marks;
  freed : IsFreedFrom l.gate l.fn.self.marks l.self.marks;
  countdowns : l.self.countdowns ≡ l.fn.self.countdowns;
}
