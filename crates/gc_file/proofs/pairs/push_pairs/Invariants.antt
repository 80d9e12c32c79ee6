use Rattle.gc_file.proofs.ReaderNames.{◌*◌, flat_map, bytes_by, IsLabelPair, AreRead}
use Rattle.gc_file.proofs.pairs.push_pairs.Given as goal

abbrev pub invariant-loop-i : goal.invariant-loop-i
invariant-loop-i g l =
    AreRead (bytes_by g.P.LabelPair.labels) (IsLabelPair g.P.LabelPair.labels)
    (flat_map (bytes_by g.P.LabelPair.labels) l.fn.pairs.items) l.bytes (32 * l.i) l.pairs.items
