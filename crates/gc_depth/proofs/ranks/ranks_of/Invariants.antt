use Rattle.gc_depth.proofs.TableLemmas.{Ranked}
use Rattle.gc_depth.proofs.ranks.ranks_of.Given as goal

abbrev pub invariant-loop-i : goal.invariant-loop-i
invariant-loop-i g l = Ranked l.circuit l.i l.depths.items l.of_gates.items l.end
