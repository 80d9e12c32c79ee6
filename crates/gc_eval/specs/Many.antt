-- What an evaluation on many threads returns.
use Rattle.std.specs.Prelude.{◌≡◌, ℕ, ◌<◌, ◌⊎◌, Bool, List, Result, Err}
use Rattle.gc_workers.specs.declared.TheConstants.{MAX_WORKERS}
use Rattle.gc_workers.specs.Workers.{AreFew}
use Rattle.gc_job.specs.declared.fault.EvalFault.{EvalFault}
use Rattle.gc_job.specs.declared.fault.EvalFault.TheVariants.{BadWorkers}
use Rattle.gc_job.specs.Job.{JobParts}
use Rattle.gc_job.specs.Evaluate.{IsEvaluated}

-- A job is evaluated by this number of workers: their number is at fault exactly where it is 0 or above the limit, and
-- else the job is evaluated.
abbrev pub IsEvaluatedBy : ℕ → JobParts → Result (List Bool) EvalFault → Type 0
IsEvaluatedBy workers job (Err BadWorkers) = (workers ≡ 0) ⊎ (MAX_WORKERS < workers)
IsEvaluatedBy workers job result = AreFew workers × IsEvaluated job result
