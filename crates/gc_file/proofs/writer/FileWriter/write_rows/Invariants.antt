use Rattle.gc_file.proofs.WriterNames.{flat_map, take, row_bytes, Wrote}
use Rattle.gc_file.proofs.writer.FileWriter.write_rows.Given as goal

abbrev pub invariant-loop-row : goal.invariant-loop-row
invariant-loop-row g l =
    Wrote g.O.Observer.saw g.S.Sink l.initial.self l.self l.initial.sink l.sink
    (flat_map row_bytes (take l.row-index l.rows))
