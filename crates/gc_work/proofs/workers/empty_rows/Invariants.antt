use Rattle.gc_work.proofs.Names.{[], AreAllPlaced}
use Rattle.gc_work.proofs.workers.empty_rows.Given as goal

abbrev pub invariant-loop-i : goal.invariant-loop-i
invariant-loop-i g l = AreAllPlaced [] l.rows.items
