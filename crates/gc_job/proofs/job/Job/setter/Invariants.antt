use Rattle.gc_job.proofs.Names.{ℕ, ◌<◌, IsSetBy}
use Rattle.gc_job.proofs.job.Job.setter.Given as goal

abbrev pub invariant-loop-gate : goal.invariant-loop-gate
invariant-loop-gate g l = (h : ℕ) → h < l.gate → IsSetBy l.circuit l.wire h → ⊥
