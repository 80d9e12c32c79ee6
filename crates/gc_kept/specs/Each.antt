-- What evaluating each job of a list leaves.
use Rattle.std.specs.Prelude.{◌≡◌, ◌<◌, ◌≤◌, ℕ, List, Result, Ok, Err, length, take, drop, slice_get, Some}
use Rattle.gc_netlist.specs.Circuit.{output_wires}
use Rattle.gc_job.specs.Job.{JobParts}
use Rattle.gc_kept.specs.declared.fault.KeptFault.{KeptFault}
use Rattle.gc_kept.specs.declared.fault.KeptFault.TheVariants.{SmallBuffer, Memory}
use Rattle.gc_kept.specs.Job.{HasOutputBits, HasEvaluationFault}
use Rattle.gc_kept.specs.Jobs.{outputs_of}

-- Evaluating a job leaves its output bits in a buffer, or what was there.
abbrev pub IsOutcome : JobParts → (old new : List ℕ) → Result (Unit {0}) KeptFault → Type 0
IsOutcome job old new (Ok done) = HasOutputBits job old new
IsOutcome job old new (Err fault) = HasEvaluationFault job (length old) fault × (new ≡ old)

-- The part of a buffer for the bits of the job at a place: they come after those of the jobs before it.
abbrev pub part_for : List JobParts → (place : ℕ) → JobParts → List ℕ → List ℕ
part_for jobs place job buffer =
    take (output_wires job.circuit) (drop (outputs_of (take place jobs)) buffer)

-- Each job is evaluated to its part of the buffer, and these are the outcomes in order. The end of the buffer stays as
-- it was.
pub record AreOutcomes (jobs : List JobParts) (old new : List ℕ)
    (outcomes : List (Result (Unit {0}) KeptFault)) : Type 0 where
  pub room : outputs_of jobs ≤ length old
  pub count : length outcomes ≡ length jobs
  pub each : (k : ℕ) (job : JobParts) (outcome : Result (Unit {0}) KeptFault)
      → slice_get jobs k ≡ Some job → slice_get outcomes k ≡ Some outcome
      → IsOutcome job (part_for jobs k job old) (part_for jobs k job new) outcome
  pub rest : drop (outputs_of jobs) new ≡ drop (outputs_of jobs) old

-- The fault of a list of jobs: the buffer has too little room. Memory may be missing for the list instead.
abbrev pub HasOutputsRoomFault : List JobParts → (room : ℕ) → KeptFault → Type 0
HasOutputsRoomFault jobs room SmallBuffer = room < outputs_of jobs
HasOutputsRoomFault jobs room Memory = outputs_of jobs ≤ room
HasOutputsRoomFault jobs room _ = ⊥
