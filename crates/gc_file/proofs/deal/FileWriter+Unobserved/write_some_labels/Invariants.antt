use Rattle.gc_file.proofs.WriterNames.{take, Unseen, Wrote, label_bytes}
use Rattle.gc_file.proofs.deal.FileWriter+Unobserved.write_some_labels.Given as goal

abbrev pub invariant-loop-i : goal.invariant-loop-i
invariant-loop-i g l =
    Wrote Unseen g.S.Sink l.initial.self l.self l.initial.sink l.sink
    (label_bytes l.of.seed.now l.of.first (take l.i l.of.bits.now))
