-- The files that a line of a list names, before its garbled file is checked, and the jobs that they make. What is said
-- of a file is said where its bytes are known.
use Rattle.std.specs.Prelude.{◌≡◌, ◌≢◌, ℕ, ◌⊎◌, Bool, true, false, List, [], ◌∷◌}
use Rattle.sha2.specs.Sha256.{sha256}
use Rattle.gc_netlist.specs.Circuit.{Netlist}
use Rattle.gc_file.specs.declared.fault.FileFault.TheVariants as file
use Rattle.gc_file.specs.FileFault.{FirstGarbledFault}
use Rattle.gc_file.specs.GarbledFile.{GarbledParts, IsGarbledFile}
use Rattle.gc_file.specs.LabelFile.{LabelFileParts}
use Rattle.gc_file.specs.Reading.{before_trailer}
use Rattle.gc_job.specs.declared.fault.BindFault.TheVariants as bind
use Rattle.gc_job.specs.Job.{JobParts}
use Rattle.gc_job.specs.Binding.{FirstBindFault, IsBound}
use Rattle.gc_disk.specs.Files.{FileBytes, FailedFiles, GivesFile, HasFailed}
use Rattle.gc_command.specs.declared.fault.Fault.{Fault}
use Rattle.gc_command.specs.declared.fault.Fault.TheVariants.{File, Binding, Memory}
use Rattle.gc_command.specs.declared.line_files.LineFiles.{LineFiles}
use Rattle.gc_command.specs.declared.line_files.LineFiles.TheVariants.{Unread, Unlabelled, Whole}
use Rattle.gc_command.specs.Eval.{AreLabelFiles, HasGarbledFault, HasLabelFilesFault}

-- The bytes of the garbled file, or none where it was not read.
abbrev pub garbled_bytes : {A : Type 0} → LineFiles A → List ℕ
garbled_bytes (Unread fault) = []
garbled_bytes (Unlabelled garbled fault) = garbled.items
garbled_bytes (Whole garbled labels) = garbled.items

-- All were read.
abbrev pub are_whole : {A : Type 0} → LineFiles A → Bool
are_whole (Whole garbled labels) = true
are_whole _ = false

-- The digest that the trailer of the garbled file is to be.
abbrev pub trailer_due : {A : Type 0} → LineFiles A → List ℕ
trailer_due files = sha256 (before_trailer (garbled_bytes files))

-- The words of a line name these files. `Failed` says of a name that its file has failed.
abbrev pub AreNamed : {A : Type 0} → FileBytes → (List ℕ → Type 0) → List (List ℕ) → LineFiles A
    → Type 0
AreNamed bytes Failed [] files = ⊥
AreNamed bytes Failed (garbled ∷ labels) (Unread fault) = HasGarbledFault bytes Failed garbled fault
AreNamed bytes Failed (garbled ∷ labels) (Unlabelled held fault) =
    GivesFile (bytes garbled) held.items × HasLabelFilesFault bytes Failed labels fault
AreNamed bytes Failed (garbled ∷ labels) (Whole held files) =
    GivesFile (bytes garbled) held.items × AreLabelFiles bytes labels files.items

-- The files of lines were read in turn: those of each line, or those of the lines up to one whose files have a fault.
-- Without a fault no file has failed.
abbrev pub AreReadInTurn : {A : Type 0} → FileBytes → FailedFiles → FailedFiles
    → List (List (List ℕ)) → List (LineFiles A) → Type 0
AreReadInTurn bytes old new [] [] = new ≡ old
AreReadInTurn bytes old new (words ∷ lines) (Whole garbled labels ∷ more) =
    AreNamed bytes (HasFailed old new) words (Whole garbled labels)
    × AreReadInTurn bytes old new lines more
AreReadInTurn bytes old new (words ∷ lines) (files ∷ more) =
    AreNamed bytes (HasFailed old new) words files
AreReadInTurn bytes old new _ _ = ⊥

-- The files make this job of the circuit.
abbrev pub MakeJob : {A : Type 0} → Netlist → LineFiles A → JobParts → Type 0
MakeJob c (Whole garbled labels) job =
    (g : GarbledParts) × IsGarbledFile garbled.items g × IsBound c g labels.items job
MakeJob c _ job = ⊥

-- The fault of bytes that are no garbled file, memory aside.
abbrev pub HasBytesFault : List ℕ → Fault → Type 0
HasBytesFault held (File fault) = fault ≢ file.Memory → FirstGarbledFault held fault
HasBytesFault held _ = ⊥

-- That of a garbled file and label files that are no job for the circuit.
abbrev pub HasBindingFault : Netlist → GarbledParts → List LabelFileParts → Fault → Type 0
HasBindingFault c g files (Binding fault) = fault ≢ bind.Memory → FirstBindFault c g files fault
HasBindingFault c g files _ = ⊥

-- The first fault of files that make no job: that of the garbled file comes before that of the label files.
abbrev pub MakeNoJob : {A : Type 0} → Netlist → LineFiles A → Fault → Type 0
MakeNoJob c (Unread first) fault = fault ≡ first
MakeNoJob c (Unlabelled garbled first) fault =
    HasBytesFault garbled.items fault
    ⊎ ((g : GarbledParts) × IsGarbledFile garbled.items g × (fault ≡ first))
MakeNoJob c (Whole garbled labels) fault =
    HasBytesFault garbled.items fault
    ⊎ ((g : GarbledParts) × IsGarbledFile garbled.items g
    × HasBindingFault c g labels.items fault)

-- The files of lines make these jobs: as many, and each its own.
abbrev pub MakeJobs : {A : Type 0} → Netlist → List (LineFiles A) → List JobParts → Type 0
MakeJobs c [] [] = Unit {0}
MakeJobs c (files ∷ more) (job ∷ jobs) = MakeJob c files job × MakeJobs c more jobs
MakeJobs c _ _ = ⊥

-- The first that make no job have this fault.
abbrev pub FirstMakeNoJob : {A : Type 0} → Netlist → List (LineFiles A) → Fault → Type 0
FirstMakeNoJob c [] fault = ⊥
FirstMakeNoJob c (files ∷ more) fault =
    MakeNoJob c files fault
    ⊎ ((job : JobParts) × MakeJob c files job × FirstMakeNoJob c more fault)

-- The fault of making jobs of the files of lines.
abbrev pub HasMakingFault : {A : Type 0} → Netlist → List (LineFiles A) → Fault → Type 0
HasMakingFault c files Memory = Unit {0}
HasMakingFault c files fault = FirstMakeNoJob c files fault
