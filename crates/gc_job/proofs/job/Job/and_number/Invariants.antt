use Rattle.gc_job.proofs.Names.{◌≡◌, and_number}
use Rattle.gc_job.proofs.job.Job.and_number.Given as goal

abbrev pub invariant-loop-i : goal.invariant-loop-i
invariant-loop-i g l = l.number ≡ and_number l.circuit l.i
