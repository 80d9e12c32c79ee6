use Rattle.gc_file.proofs.ReaderNames.{◌*◌, [], take, row_bytes, IsRowPair, AreRead}
use Rattle.gc_file.proofs.pairs.read_rows.Given as goal

abbrev pub invariant-loop-i : goal.invariant-loop-i
invariant-loop-i l = AreRead row_bytes IsRowPair [] l.bytes (32 * l.i) (take l.i l.rows)
