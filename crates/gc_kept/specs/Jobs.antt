-- Lists of jobs.
use Rattle.std.specs.Prelude.{◌<◌, ◌≤◌, ℕ, Bool, List, length, map, flat_map, Err}
use Rattle.std.specs.List.{sum_by}
use Rattle.gc_netlist.specs.Circuit.{output_wires}
use Rattle.gc_netlist.specs.Spelling.{bit_number}
use Rattle.gc_job.specs.Job.{JobParts}
use Rattle.gc_job.specs.Jobs.{AreEvaluated, EvaluateTo}
use Rattle.gc_kept.specs.declared.fault.KeptFault.{KeptFault}
use Rattle.gc_kept.specs.declared.fault.KeptFault.TheVariants.{Evaluation, SmallBuffer, Memory}
use Rattle.gc_kept.specs.Files.{IsFileAt}

-- How many output wires jobs have together.
abbrev pub outputs_of : List JobParts → ℕ
outputs_of jobs = sum_by (λ job. output_wires job.circuit) jobs

-- The buffer begins with the bits that the jobs are evaluated to, one job's after another's.
pub record AreAllEvaluated (jobs : List JobParts) (old new : List ℕ) : Type 0 where
  pub each : List (List Bool)
  pub evaluated : AreEvaluated jobs each
  pub buffer : IsFileAt (map bit_number (flat_map (λ bits. bits) each)) old new

-- The fault of such an evaluation: the buffer has too little room, then, where there is a job, that of the first that
-- has one. Memory may be missing for the list instead.
abbrev pub HasJobListFault : List JobParts → ℕ → KeptFault → Type 0
HasJobListFault jobs room SmallBuffer = room < outputs_of jobs
HasJobListFault jobs room (Evaluation fault) =
    (outputs_of jobs ≤ room) × (0 < length jobs) × EvaluateTo jobs (Err fault)
HasJobListFault jobs room Memory = outputs_of jobs ≤ room
HasJobListFault jobs room _ = ⊥
