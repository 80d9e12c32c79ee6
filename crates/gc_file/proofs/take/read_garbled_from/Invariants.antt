use Rattle.gc_file.proofs.ReaderNames.{◌≡◌, ◌-◌, IsTaking, most_bytes, fed_length}
use Rattle.gc_file.proofs.take.read_garbled_from.Given as goal

abbrev pub invariant-loop-reader : goal.invariant-loop-reader
invariant-loop-reader g l = record {
  taking : IsTaking l.reader (g.S.Source.left l.initial.source) (g.S.Source.left l.source) l.got;
  counted : g.S.Source.failures l.source ≡ g.S.Source.failures l.initial.source;
}

abbrev pub decreases-loop-reader : goal.decreases-loop-reader
decreases-loop-reader g l = most_bytes - fed_length l.reader
