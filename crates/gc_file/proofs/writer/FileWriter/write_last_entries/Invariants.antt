use Rattle.gc_file.proofs.WriterNames.{◌-◌, flat_map, entry_bytes, entry_pairs_from, Wrote}
use Rattle.gc_file.proofs.writer.FileWriter.write_last_entries.Given as goal

abbrev pub invariant-loop-i : goal.invariant-loop-i
invariant-loop-i g l =
    Wrote g.O.Observer.saw g.S.Sink l.initial.self l.self l.initial.sink l.sink
    (flat_map entry_bytes (entry_pairs_from l.of.offset l.of.garbling.now l.first (l.i - l.first)))
