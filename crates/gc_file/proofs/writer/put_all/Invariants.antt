use Rattle.gc_file.proofs.WriterNames.{◌≡◌, ◌≤◌, ◌-◌, length, take, Appends}
use Rattle.gc_file.proofs.writer.put_all.Given as goal

abbrev pub invariant-loop-done : goal.invariant-loop-done
invariant-loop-done g l =
    (l.done ≤ length l.piece)
    × Appends (g.S.Sink.taken l.initial.sink) (g.S.Sink.taken l.sink) (take l.done l.piece)
    × (g.S.Sink.failures l.sink ≡ g.S.Sink.failures l.initial.sink)

abbrev pub decreases-loop-done : goal.decreases-loop-done
decreases-loop-done g l = length l.piece - l.done
