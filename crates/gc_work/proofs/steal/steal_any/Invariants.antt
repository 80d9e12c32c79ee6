use Rattle.gc_work.specs.Places.{ArePlaced}
use Rattle.gc_work.proofs.steal.steal_any.Given as goal

abbrev pub invariant-loop-k : goal.invariant-loop-k
invariant-loop-k g l = ArePlaced l.pools l.thieves
