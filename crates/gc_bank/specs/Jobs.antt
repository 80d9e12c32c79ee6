-- Lists of jobs on one circuit, and what evaluating them returns.
use Rattle.std.specs.Prelude.{◌≡◌, ℕ, ◌<◌, ◌⊎◌, Bool, List, slice_get, Some, Result, Err}
use Rattle.gc_netlist.specs.Circuit.{Netlist}
use Rattle.gc_workers.specs.declared.TheConstants.{MAX_WORKERS}
use Rattle.gc_workers.specs.Workers.{AreFew}
use Rattle.gc_job.specs.declared.fault.EvalFault.{EvalFault}
use Rattle.gc_job.specs.declared.fault.EvalFault.TheVariants.{BadWorkers}
use Rattle.gc_job.specs.Job.{JobParts}
use Rattle.gc_job.specs.Jobs.{EvaluateTo}

-- The first n jobs are on this circuit.
abbrev pub AreOn : Netlist → List JobParts → ℕ → Type 0
AreOn c jobs n = (k : ℕ) (job : JobParts) → k < n → slice_get jobs k ≡ Some job → job.circuit ≡ c

-- The jobs' circuits are all equal.
abbrev pub AreOnOneCircuit : List JobParts → Type 0
AreOnOneCircuit jobs =
    (i k : ℕ) (a b : JobParts) → slice_get jobs i ≡ Some a → slice_get jobs k ≡ Some b
    → a.circuit ≡ b.circuit

-- They are evaluated by this number of workers: their number is at fault exactly where it is 0 or above the limit.
abbrev pub AreEvaluatedBy : ℕ → List JobParts → Result (List (List Bool)) EvalFault → Type 0
AreEvaluatedBy workers jobs (Err BadWorkers) = (workers ≡ 0) ⊎ (MAX_WORKERS < workers)
AreEvaluatedBy workers jobs result = AreFew workers × EvaluateTo jobs result
