-- The command `jobs`: what it returns, and which fault it has. What is said of a file is said where its bytes are
-- known.
use Rattle.std.specs.Prelude.{◌≡◌, ◌≢◌, ℕ, ◌<◌, ◌⊎◌, Bool, List, [], ◌∷◌, ◌++◌, flat_map, length, IfSome, Err}
use Rattle.gc_netlist.specs.Circuit.{Netlist}
use Rattle.gc_file.specs.GarbledFile.{GarbledParts}
use Rattle.gc_file.specs.LabelFile.{LabelFileParts}
use Rattle.gc_workers.specs.Workers.{AreFew}
use Rattle.gc_job.specs.declared.fault.BindFault.TheVariants as bind
use Rattle.gc_job.specs.Job.{JobParts}
use Rattle.gc_job.specs.Binding.{FirstBindFault, IsBound}
use Rattle.gc_job.specs.Jobs.{AreEvaluated}
use Rattle.gc_bank.specs.Jobs.{AreEvaluatedBy}
use Rattle.gc_disk.specs.Files.{FileBytes, GivesFile}
use Rattle.gc_command.specs.declared.fault.Fault.{Fault}
use Rattle.gc_command.specs.declared.fault.Fault.TheVariants.{Circuit, File, Binding, Evaluation, BadList, CannotRead, Memory}
use Rattle.gc_command.specs.declared.value_form.ValueForm.{ValueForm}
use Rattle.gc_command.specs.CircuitFile.{IsCircuit, HasCircuitFault}
use Rattle.gc_command.specs.Lines.{output_lines}
use Rattle.gc_command.specs.Eval.{AreFilesGiven, HasFilesFault}
use Rattle.gc_command.specs.JobList.{IsJobList, listed}

-- The words name a garbled file and then label files, of these parts.
pub record NameFiles (bytes : FileBytes) (words : List (List ℕ)) (g : GarbledParts)
    (files : List LabelFileParts) : Type 0 where
  pub garbled : List ℕ
  pub labels : List (List ℕ)
  pub names : words ≡ garbled ∷ labels
  pub given : AreFilesGiven bytes garbled labels g files

-- The words name the files of this job of the circuit.
pub record NameJob (bytes : FileBytes) (c : Netlist) (words : List (List ℕ)) (job : JobParts)
    : Type 0 where
  pub g : GarbledParts
  pub files : List LabelFileParts
  pub named : NameFiles bytes words g files
  pub bound : IsBound c g files job

-- The faults of reading the files that the words name, in turn. `Failed` says of a name that its file has failed.
abbrev pub FirstBadNamed : FileBytes → (List ℕ → Type 0) → List (List ℕ) → Fault → Type 0
FirstBadNamed bytes Failed [] fault = ⊥
FirstBadNamed bytes Failed (garbled ∷ labels) fault =
    HasFilesFault bytes Failed garbled labels fault

-- The faults of the files that the words name, and of binding them.
abbrev pub HasNamedFault : FileBytes → (List ℕ → Type 0) → Netlist → List (List ℕ) → Fault → Type 0
HasNamedFault bytes Failed c words CannotRead = FirstBadNamed bytes Failed words CannotRead
HasNamedFault bytes Failed c words (File fault) = FirstBadNamed bytes Failed words (File fault)
HasNamedFault bytes Failed c words (Binding fault) =
    (g : GarbledParts) × ((files : List LabelFileParts) × (NameFiles bytes words g files
    × (fault ≢ bind.Memory → FirstBindFault c g files fault)))
HasNamedFault bytes Failed c words Memory = Unit {0}
HasNamedFault bytes Failed c words _ = ⊥

-- The lines name these jobs: as many, and each its own.
abbrev pub NameJobs : FileBytes → Netlist → List (List (List ℕ)) → List JobParts → Type 0
NameJobs bytes c [] [] = Unit {0}
NameJobs bytes c (words ∷ lines) (job ∷ jobs) =
    NameJob bytes c words job × NameJobs bytes c lines jobs
NameJobs bytes c _ _ = ⊥

-- The first line that names no job has this fault.
abbrev pub FirstBadJob : FileBytes → (List ℕ → Type 0) → Netlist → List (List (List ℕ)) → Fault
    → Type 0
FirstBadJob bytes Failed c [] fault = ⊥
FirstBadJob bytes Failed c (words ∷ lines) fault =
    HasNamedFault bytes Failed c words fault
    ⊎ ((job : JobParts) × NameJob bytes c words job
    × FirstBadJob bytes Failed c lines fault)

-- The faults of the lines in turn.
abbrev pub HasLinesFault : FileBytes → (List ℕ → Type 0) → Netlist → List (List (List ℕ)) → Fault
    → Type 0
HasLinesFault bytes Failed c lines CannotRead = FirstBadJob bytes Failed c lines CannotRead
HasLinesFault bytes Failed c lines Memory = Unit {0}
HasLinesFault bytes Failed c lines (File fault) = FirstBadJob bytes Failed c lines (File fault)
HasLinesFault bytes Failed c lines (Binding fault) =
    FirstBadJob bytes Failed c lines (Binding fault)
HasLinesFault bytes Failed c lines _ = ⊥

-- The file of this name is a list of these jobs.
pub record AreListed (bytes : FileBytes) (list : List ℕ) (c : Netlist) (jobs : List JobParts)
    : Type 0 where
  pub text : List ℕ
  pub text_read : GivesFile (bytes list) text
  pub is_list : IsJobList text
  pub named : NameJobs bytes c (listed text) jobs

-- It is a list, and the first line that names no job has this fault.
pub record HasBadJob (bytes : FileBytes) (Failed : List ℕ → Type 0) (list : List ℕ) (c : Netlist)
    (fault : Fault) : Type 0 where
  pub text : List ℕ
  pub text_read : GivesFile (bytes list) text
  pub is_list : IsJobList text
  pub first : FirstBadJob bytes Failed c (listed text) fault

-- The faults of a list and of its jobs in turn, memory aside.
abbrev pub HasListFault : FileBytes → (List ℕ → Type 0) → List ℕ → Netlist → Fault → Type 0
HasListFault bytes Failed list c BadList = IfSome (bytes list) (λ text. ¬ IsJobList text)
HasListFault bytes Failed list c (File fault) = HasBadJob bytes Failed list c (File fault)
HasListFault bytes Failed list c (Binding fault) = HasBadJob bytes Failed list c (Binding fault)
HasListFault bytes Failed list c CannotRead = Failed list ⊎ HasBadJob bytes Failed list c CannotRead
HasListFault bytes Failed list c Memory = Unit {0}
HasListFault bytes Failed list c _ = ⊥

-- The lines of each job's outputs, with an empty line after them.
abbrev pub jobs_lines : ValueForm → List ℕ → List (List Bool) → List ℕ
jobs_lines form widths outputs =
    flat_map (λ bits. output_lines form widths bits ++ 10 ∷ []) outputs

-- What `jobs` returns: the lines of what each job decodes to, whatever the number of workers. A list without jobs
-- returns nothing.
pub record AnswersJobs (bytes : FileBytes) (circuit list : List ℕ) (workers : ℕ)
    (form : ValueForm) (lines : List ℕ) : Type 0 where
  pub c : Netlist
  pub circuit_read : IfSome (bytes circuit) (λ held. IsCircuit held c)
  pub jobs : List JobParts
  pub are_listed : AreListed bytes list c jobs
  pub few : 0 < length jobs → AreFew workers
  pub outputs : List (List Bool)
  pub evaluated : AreEvaluated jobs outputs
  pub printed : lines ≡ jobs_lines form c.output_widths outputs

-- When `jobs` has which fault: it is the first in the order of the work (the circuit, the list, the files and the
-- binding of each job in turn, the number of workers, evaluation), but that memory may run out at each step. A file
-- that can't be read has failed, and each file before it is what it must be.
abbrev pub HasJobsFault : FileBytes → (List ℕ → Type 0) → List ℕ → List ℕ → ℕ → Fault → Type 0
HasJobsFault bytes Failed circuit list workers CannotRead =
    Failed circuit
    ⊎ ((c : Netlist) × IfSome (bytes circuit) (λ held. IsCircuit held c)
    × HasListFault bytes Failed list c CannotRead)
HasJobsFault bytes Failed circuit list workers Memory = Unit {0}
HasJobsFault bytes Failed circuit list workers (Circuit fault) =
    IfSome (bytes circuit) (λ held. HasCircuitFault held (Circuit fault))
HasJobsFault bytes Failed circuit list workers (Evaluation fault) =
    (c : Netlist) × IfSome (bytes circuit) (λ held. IsCircuit held c) × ((jobs : List JobParts)
    × AreListed bytes list c jobs × (0 < length jobs) × AreEvaluatedBy workers jobs (Err fault))
HasJobsFault bytes Failed circuit list workers fault =
    (c : Netlist) × IfSome (bytes circuit) (λ held. IsCircuit held c)
    × HasListFault bytes Failed list c fault
