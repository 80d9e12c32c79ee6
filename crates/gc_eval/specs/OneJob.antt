-- What the words of a board are about: one job, in round 0.
use Rattle.std.specs.Prelude.{◌≡◌, ℕ, Option, Some}
use Rattle.gc_job.specs.Job.{JobParts}
use Rattle.gc_steps.specs.Jobs.{IsRightHalf, JobsLaw}

-- The number is half k of the active label of the wire that gate g sets.
abbrev pub IsRight : JobParts → ℕ → ℕ → ℕ → ℕ → Type 0
IsRight job r g k n = IsRightHalf job g k n

-- the job of a round
abbrev pub round_job : JobParts → ℕ → Option JobParts
round_job job r = Some job

pub one_job_law : JobsLaw IsRight round_job
one_job_law = record {
  gives = λ w r job is g k n it. let same : w ≡ job = cc in rw same at it;
  takes = λ w r job is g k n it. let same : w ≡ job = cc in rw same it;
}
