use Rattle.gc_work.proofs.Names.{[], ◌∷◌, ◌++◌, into_iter_items, AllOf, AreAllPlaced}
use Rattle.gc_work.proofs.workers.spread.Given as goal

abbrev pub invariant-loop-thief : goal.invariant-loop-thief
invariant-loop-thief g l = record {
  can : (goal.iterator-loop-thief g).can_next l.thief-iterator;
  finite : (goal.iterator-loop-thief g).is_finite l.thief-iterator;
  thieves : AllOf l.pool (into_iter_items l.thief-iterator);
  rows : AreAllPlaced (l.pools ++ l.pool ∷ []) l.rows;
}
