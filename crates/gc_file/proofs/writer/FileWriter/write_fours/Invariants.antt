use Rattle.gc_file.proofs.WriterNames.{◌*◌, flat_map, entry_bytes, entry_pairs_from, Wrote}
use Rattle.gc_file.proofs.writer.FileWriter.write_fours.Given as goal

abbrev pub invariant-loop-k : goal.invariant-loop-k
invariant-loop-k g l =
    Wrote g.O.Observer.saw g.S.Sink l.initial.self l.self l.initial.sink l.sink
    (flat_map entry_bytes (entry_pairs_from l.of.offset l.of.garbling.now 0 (4 * l.k)))
