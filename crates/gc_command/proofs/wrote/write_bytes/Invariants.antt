use Rattle.gc_command.proofs.Names.{◌≡◌, ◌≤◌, ◌-◌, length, take, Appends}
use Rattle.gc_command.proofs.wrote.write_bytes.Given as goal

abbrev pub invariant-loop-sent : goal.invariant-loop-sent
invariant-loop-sent g l =
    (l.sent ≤ length l.bytes)
    × Appends (g.S.Sink.taken l.initial.sink) (g.S.Sink.taken l.sink) (take l.sent l.bytes)
    × (g.S.Sink.failures l.sink ≡ g.S.Sink.failures l.initial.sink)

abbrev pub decreases-loop-sent : goal.decreases-loop-sent
decreases-loop-sent g l = length l.bytes - l.sent
