use Rattle.std.proofs.Common.{◌≡◌, ◌-◌, length}
use Rattle.gc_store.proofs.ReadersLemmas.{IsCounted}
use Rattle.gc_store.proofs.readers.Readers.count_down.Given as goal

-- the reads before have been counted down
abbrev pub invariant-loop-read : goal.invariant-loop-read
invariant-loop-read g l = record {
  marks : l.queue.marks ≡ l.fn.queue.marks;
  countdowns : length l.queue.countdowns ≡ length l.fn.queue.countdowns;
  counted : IsCounted l.circuit l.wire l.read l.fn.queue.countdowns l.queue.countdowns;
}

abbrev pub decreases-loop-read : goal.decreases-loop-read
decreases-loop-read g l = l.reads - l.read
