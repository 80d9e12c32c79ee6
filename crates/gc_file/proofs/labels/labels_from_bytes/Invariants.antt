use Rattle.gc_file.proofs.ReaderNames.{◌*◌, [], bytes_of_label, IsLabel, AreRead}
use Rattle.gc_file.proofs.labels.labels_from_bytes.Given as goal

abbrev pub invariant-loop-i : goal.invariant-loop-i
invariant-loop-i g l = AreRead bytes_of_label IsLabel [] l.bytes (16 * l.i) l.labels.items
