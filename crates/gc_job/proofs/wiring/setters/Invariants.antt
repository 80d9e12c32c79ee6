use Rattle.gc_job.specs.Wiring.{AreSetters}
use Rattle.gc_job.proofs.wiring.setters.Given as goal

abbrev pub invariant-loop-i : goal.invariant-loop-i
invariant-loop-i g l = AreSetters l.circuit l.i l.setters.items
