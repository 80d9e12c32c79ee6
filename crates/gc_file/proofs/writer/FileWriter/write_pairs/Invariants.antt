use Rattle.gc_file.proofs.WriterNames.{flat_map, take, entry_bytes, Wrote}
use Rattle.gc_file.proofs.writer.FileWriter.write_pairs.Given as goal

abbrev pub invariant-loop-pair : goal.invariant-loop-pair
invariant-loop-pair g l =
    Wrote g.O.Observer.saw g.S.Sink l.initial.self l.self l.initial.sink l.sink
    (flat_map entry_bytes (take l.pair-index l.pairs))
