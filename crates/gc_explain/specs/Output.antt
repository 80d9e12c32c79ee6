-- The place that is named for an output label that a garbled file doesn't recognise.
use Rattle.std.specs.Prelude.{◌≡◌, ◌==◌, ℕ, ◌+◌, ◌⊎◌, List, Err, Some, slice_get, IfSome}
use Rattle.std.specs.List.{slice_split}
use Rattle.gc_netlist.specs.Circuit.{Netlist}
use Rattle.gc_netlist.specs.Text.{tokens}
use Rattle.gc_job.specs.declared.fault.EvalFault.{EvalFault}
use Rattle.gc_job.specs.declared.fault.EvalFault.TheVariants.{UnknownOutputLabel}
use Rattle.gc_job.specs.Job.{JobParts}
use Rattle.gc_job.specs.Evaluate.{IsEvaluated}
use Rattle.gc_disk.specs.Files.{FileBytes, GivesFile}
use Rattle.gc_order.specs.Order.{OrderText, eval, jobs}
use Rattle.gc_command.specs.CircuitFile.{IsCircuit}
use Rattle.gc_command.specs.Jobs.{NameJob}
use Rattle.gc_explain.specs.Places.{file_place, line_place}

-- The words name a job of the circuit that has this fault.
abbrev pub HasNamedJobFault : FileBytes → Netlist → List (List ℕ) → EvalFault → Type 0
HasNamedJobFault bytes c words fault =
    (job : JobParts) × NameJob bytes c words job × IsEvaluated job (Err fault)

-- The job on this line of the list, counted from 1, has an unknown label of this output.
pub record IsUnknownLine (bytes : FileBytes) (circuit list : List ℕ) (line output : ℕ)
    : Type 0 where
  pub c : Netlist
  pub circuit_read : IfSome (bytes circuit) (λ held. IsCircuit held c)
  pub text : List ℕ
  pub text_read : GivesFile (bytes list) text
  pub before : ℕ
  pub counted : line ≡ before + 1
  pub words : List ℕ
  pub at : slice_get (slice_split (λ b. b == 10) text) before ≡ Some words
  pub unknown : HasNamedJobFault bytes c (tokens words) (UnknownOutputLabel output)

-- The place is that line. Where the files can't be read once more, it is the whole list.
abbrev pub IsJobPlace : FileBytes → List ℕ → List ℕ → ℕ → List ℕ → Type 0
IsJobPlace bytes circuit list output place =
    (place ≡ file_place list)
    ⊎ ((line : ℕ) × (place ≡ line_place list line) × IsUnknownLine bytes circuit list line output)

-- The place for an output of an order: of `eval` it is the garbled file.
abbrev pub IsOutputPlace : FileBytes → OrderText → ℕ → List ℕ → Type 0
IsOutputPlace bytes (eval circuit garbled workers hex labels) output place =
    place ≡ file_place garbled
IsOutputPlace bytes (jobs circuit list workers hex) output place =
    IsJobPlace bytes circuit list output place
IsOutputPlace bytes order output place = ⊥
