use Rattle.gc_file.proofs.WriterNames.{take, decode_bits_of, packed, Wrote}
use Rattle.gc_file.proofs.writer.FileWriter.write_decode_bits.Given as goal

abbrev pub invariant-loop-k : goal.invariant-loop-k
invariant-loop-k g l =
    Wrote g.O.Observer.saw g.S.Sink l.initial.self l.self l.initial.sink l.sink
    (take l.k (packed (decode_bits_of l.garbling)))
