use Rattle.gc_bank.specs.Jobs.{AreOn}
use Rattle.gc_bank.proofs.same_circuit.are_on.Given as goal

abbrev pub invariant-loop-job : goal.invariant-loop-job
invariant-loop-job g l = AreOn l.circuit l.jobs l.job-index
