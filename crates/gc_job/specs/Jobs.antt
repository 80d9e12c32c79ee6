-- Lists of jobs, and what evaluating them returns.
use Rattle.std.specs.Prelude.{◌≡◌, ℕ, ◌<◌, ◌≤◌, Bool, List, Option, Vec, IfSome, length, map, slice_get, slice_index_or, Some, Result, Ok, Err}
use Rattle.gc_netlist.specs.Circuit.{output_wires}
use Rattle.gc_job.specs.declared.fault.EvalFault.{EvalFault}
use Rattle.gc_job.specs.declared.fault.EvalFault.TheVariants.{BadWorkers, UnknownOutputLabel, Memory}
use Rattle.gc_job.specs.Job.{JobParts}
use Rattle.gc_job.specs.Evaluate.{IsEvaluated}

-- The bits are those of the job at this place.
abbrev pub AreBitsOf : List JobParts → ℕ → List Bool → Type 0
AreBitsOf jobs k bits = (job : JobParts) → slice_get jobs k ≡ Some job → IsEvaluated job (Ok bits)

-- The bits at each place of a list, where there are any, are those of the job at the same place.
abbrev pub AreKnown : {B : Type 0} → List JobParts → List (Option (Vec Bool B)) → Type 0
AreKnown jobs known =
    (k : ℕ) (d : Option (Vec Bool _)) → k < length known
    → IfSome (slice_index_or known k d) (λ bits. AreBitsOf jobs k bits.items)

-- The jobs from one place on and before another are on the circuit of the first of them.
abbrev pub AreBeside : List JobParts → (first end : ℕ) → Type 0
AreBeside jobs first end =
    (k : ℕ) (a b : JobParts) → first ≤ k → k < end → slice_get jobs first ≡ Some a
    → slice_get jobs k ≡ Some b → b.circuit ≡ a.circuit

-- There are as many lists of bits as jobs, and each job is evaluated to its own, which has a bit for each output wire.
pub record AreEvaluated (jobs : List JobParts) (outputs : List (List Bool)) : Type 0 where
  pub count : length outputs ≡ length jobs
  pub lengths : map length outputs ≡ map (λ job. output_wires job.circuit) jobs
  pub each : (k : ℕ) (job : JobParts) (bits : List Bool) → slice_get jobs k ≡ Some job
      → slice_get outputs k ≡ Some bits → IsEvaluated job (Ok bits)

-- This output of a job is the first whose label is unknown, and all jobs before that are evaluated to bits.
pub record IsFirstUnknownJob (jobs : List JobParts) (output : ℕ) : Type 0 where
  pub place : ℕ
  pub job : JobParts
  pub at : slice_get jobs place ≡ Some job
  pub unknown : IsEvaluated job (Err (UnknownOutputLabel output))
  pub before : (k : ℕ) (other : JobParts) → k < place → slice_get jobs k ≡ Some other
      → (bits : List Bool) × IsEvaluated other (Ok bits)

-- The jobs are evaluated in order: to the bits of each, or to the first unknown output label. Memory may be missing
-- instead.
abbrev pub EvaluateTo : List JobParts → Result (List (List Bool)) EvalFault → Type 0
EvaluateTo jobs (Ok outputs) = AreEvaluated jobs outputs
EvaluateTo jobs (Err (UnknownOutputLabel output)) = IsFirstUnknownJob jobs output
EvaluateTo jobs (Err Memory) = Unit {0}
EvaluateTo jobs (Err BadWorkers) = ⊥
