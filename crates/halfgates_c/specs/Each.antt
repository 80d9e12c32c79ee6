-- The codes of jobs in a list.
use Rattle.std.specs.Prelude.{◌≡◌, ◌≢◌, ℕ, ℤ, List, Result, Ok, Err, pos, length, map}
use Rattle.gc_job.specs.Job.{JobParts}
use Rattle.gc_kept.specs.declared.fault.KeptFault.{KeptFault}
use Rattle.gc_kept.specs.declared.fault.KeptFault.TheVariants.{BadArgument}
use Rattle.gc_kept.specs.Each.{AreOutcomes, HasOutputsRoomFault}
use Rattle.gc_kept.specs.Fault.{code_of}

-- The code of an outcome: 0, or that of its fault.
abbrev pub outcome_code : Result (Unit {0}) KeptFault → ℤ
outcome_code (Ok done) = pos 0
outcome_code (Err fault) = pos (code_of fault)

-- The codes are those of the outcomes of the jobs, in order.
pub record AreCodes (jobs : List JobParts) (old new : List ℕ) (codes : List ℤ) : Type 0 where
  pub outcomes : List (Result (Unit {0}) KeptFault)
  pub each : AreOutcomes jobs old new outcomes
  pub codes_are : codes ≡ map outcome_code outcomes

-- The fault of a list of jobs, which needs a code for each.
abbrev pub HasEachFault : List JobParts → (room codes : ℕ) → KeptFault → Type 0
HasEachFault jobs room codes BadArgument = codes ≢ length jobs
HasEachFault jobs room codes fault = HasOutputsRoomFault jobs room fault
