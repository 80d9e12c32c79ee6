use Rattle.gc_file.proofs.WriterNames.{◌≤◌, ◌-◌, length, take, Unseen, Wrote, label_bytes}
use Rattle.gc_file.proofs.deal.FileWriter+Unobserved.write_labels.Given as goal

abbrev pub invariant-loop-done : goal.invariant-loop-done
invariant-loop-done g l =
    (l.done ≤ length l.of.bits.now)
    × Wrote Unseen g.S.Sink l.initial.self l.self l.initial.sink l.sink
    (label_bytes l.of.seed.now l.of.first (take l.done l.of.bits.now))

abbrev pub decreases-loop-done : goal.decreases-loop-done
decreases-loop-done g l = length l.of.bits.now - l.done
