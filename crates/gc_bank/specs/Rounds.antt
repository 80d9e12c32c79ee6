-- What the rounds of two banks are about: round r is the job at place r of a list, whose jobs are on one circuit.
use Rattle.std.specs.Prelude.{◌≡◌, ℕ, List, slice_get, Option, Some, None}
use Rattle.std.proofs.Common.{subst, sym}
use Rattle.gc_job.specs.Job.{JobParts}
use Rattle.gc_job.specs.ActiveLabels.{gates_of as gates_in}
use Rattle.gc_steps.specs.Jobs.{IsRightHalf, JobsLaw}

-- how many gates the first job's circuit has, which is that of all
abbrev pub gates_by : Option JobParts → ℕ
gates_by None = 0
gates_by (Some job) = gates_in job

abbrev pub gates_of_each : List JobParts → ℕ
gates_of_each jobs = gates_by (slice_get jobs 0)

-- The number is half k of the active label of the wire that gate g sets, in this job.
abbrev pub IsRightBy : Option JobParts → ℕ → ℕ → ℕ → Type 0
IsRightBy None g k n = ⊥
IsRightBy (Some job) g k n = IsRightHalf job g k n

-- The same, in the job of round r.
abbrev pub IsRightIn : List JobParts → ℕ → ℕ → ℕ → ℕ → Type 0
IsRightIn jobs r g k n = IsRightBy (slice_get jobs r) g k n

-- The job is that of round r, on the circuit of all.
pub record IsRound (jobs : List JobParts) (r : ℕ) (job : JobParts) : Type 0 where
  pub at : slice_get jobs r ≡ Some job
  pub gates : gates_in job ≡ gates_of_each jobs

-- the job of round r
abbrev pub round_job : List JobParts → ℕ → Option JobParts
round_job jobs r = slice_get jobs r

pub series_law : JobsLaw IsRightIn round_job
series_law = record {
  gives = λ w r job is g k n it. subst (λ o. IsRightBy o g k n) is it;
  takes = λ w r job is g k n it. subst (λ o. IsRightBy o g k n) (sym is) it;
}
