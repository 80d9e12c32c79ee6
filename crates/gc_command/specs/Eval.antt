-- The command `eval`: what it returns, and which fault it has. What is said of a file is said where its bytes are
-- known.
use Rattle.std.specs.Prelude.{◌≡◌, ◌≢◌, ℕ, ◌⊎◌, Bool, List, [], ◌∷◌, IfSome}
use Rattle.gc_netlist.specs.Circuit.{Netlist}
use Rattle.gc_file.specs.declared.fault.FileFault.TheVariants as file
use Rattle.gc_file.specs.GarbledFile.{GarbledParts, IsGarbledFile}
use Rattle.gc_file.specs.LabelFile.{LabelFileParts, IsLabelFile}
use Rattle.gc_file.specs.FileFault.{FirstGarbledFault, FirstLabelFault}
use Rattle.gc_workers.specs.Workers.{AreFew}
use Rattle.gc_disk.specs.Files.{FileBytes}
use Rattle.gc_command.specs.declared.fault.Fault.{Fault}
use Rattle.gc_command.specs.declared.fault.Fault.TheVariants.{Circuit, File, Binding, Evaluation, CannotRead, Memory}
use Rattle.gc_command.specs.declared.value_form.ValueForm.{ValueForm}
use Rattle.gc_command.specs.CircuitFile.{IsCircuit, HasCircuitFault}
use Rattle.gc_command.specs.Lines.{output_lines}
use Rattle.gc_command.specs.Job.{DecodeTo, HasJobFault}

-- The files of these names are label files with these parts: as many, and each its own.
abbrev pub AreLabelFiles : FileBytes → List (List ℕ) → List LabelFileParts → Type 0
AreLabelFiles bytes [] [] = Unit {0}
AreLabelFiles bytes (name ∷ names) (parts ∷ files) =
    IfSome (bytes name) (λ held. IsLabelFile held parts) × AreLabelFiles bytes names files
AreLabelFiles bytes _ _ = ⊥

-- The faults of reading the garbled file of this name, memory aside. `Failed` says of a name that its file has failed.
abbrev pub HasGarbledFault : FileBytes → (List ℕ → Type 0) → List ℕ → Fault → Type 0
HasGarbledFault bytes Failed name (File fault) =
    fault ≢ file.Memory → IfSome (bytes name) (λ held. FirstGarbledFault held fault)
HasGarbledFault bytes Failed name CannotRead = Failed name
HasGarbledFault bytes Failed name Memory = Unit {0}
HasGarbledFault bytes Failed name _ = ⊥

-- Those of reading the label file of this name.
abbrev pub HasLabelFault : FileBytes → (List ℕ → Type 0) → List ℕ → Fault → Type 0
HasLabelFault bytes Failed name (File fault) =
    fault ≢ file.Memory → IfSome (bytes name) (λ held. FirstLabelFault held fault)
HasLabelFault bytes Failed name CannotRead = Failed name
HasLabelFault bytes Failed name Memory = Unit {0}
HasLabelFault bytes Failed name _ = ⊥

-- Those of reading label files in turn: one has the fault, and each file before it is a label file.
abbrev pub HasLabelFilesFault : FileBytes → (List ℕ → Type 0) → List (List ℕ) → Fault → Type 0
HasLabelFilesFault bytes Failed [] fault = fault ≡ Memory
HasLabelFilesFault bytes Failed (name ∷ names) fault =
    HasLabelFault bytes Failed name fault
    ⊎ ((parts : LabelFileParts) × IfSome (bytes name) (λ held. IsLabelFile held parts)
    × HasLabelFilesFault bytes Failed names fault)

-- Those of reading a garbled file and then label files: it has the fault, or it is a garbled file, and these have it.
abbrev pub HasFilesFault : FileBytes → (List ℕ → Type 0) → List ℕ → List (List ℕ) → Fault → Type 0
HasFilesFault bytes Failed garbled labels fault =
    HasGarbledFault bytes Failed garbled fault
    ⊎ ((g : GarbledParts) × IfSome (bytes garbled) (λ held. IsGarbledFile held g)
    × HasLabelFilesFault bytes Failed labels fault)

-- The files of these names are a garbled file and label files.
pub record AreFilesGiven (bytes : FileBytes) (garbled : List ℕ) (labels : List (List ℕ))
    (g : GarbledParts) (files : List LabelFileParts) : Type 0 where
  pub garbled_read : IfSome (bytes garbled) (λ held. IsGarbledFile held g)
  pub labels_read : AreLabelFiles bytes labels files

-- The files of these names are a circuit, a garbled file and label files.
pub record AreEvalFiles (bytes : FileBytes) (circuit garbled : List ℕ) (labels : List (List ℕ))
    (c : Netlist) (g : GarbledParts) (files : List LabelFileParts) : Type 0 where
  pub circuit_read : IfSome (bytes circuit) (λ held. IsCircuit held c)
  pub given : AreFilesGiven bytes garbled labels g files

-- What `eval` returns: the lines of what the files decode to, whatever the number of workers.
pub record AnswersEval (bytes : FileBytes) (circuit garbled : List ℕ) (workers : ℕ)
    (form : ValueForm) (labels : List (List ℕ)) (lines : List ℕ) : Type 0 where
  pub c : Netlist
  pub g : GarbledParts
  pub files : List LabelFileParts
  pub input : AreEvalFiles bytes circuit garbled labels c g files
  pub few : AreFew workers
  pub outputs : List Bool
  pub decoded : DecodeTo c g files outputs
  pub printed : lines ≡ output_lines form c.output_widths outputs

-- When `eval` has which fault: it is the first in the order of the work, in which the number of workers comes after
-- binding, but that memory may run out at each step. A file that can't be read has failed, and each file before it is
-- what it must be.
abbrev pub HasEvalFault : FileBytes → (List ℕ → Type 0) → List ℕ → List ℕ → ℕ → List (List ℕ)
    → Fault → Type 0
HasEvalFault bytes Failed circuit garbled workers labels CannotRead =
    Failed circuit
    ⊎ ((c : Netlist) × IfSome (bytes circuit) (λ held. IsCircuit held c)
    × HasFilesFault bytes Failed garbled labels CannotRead)
HasEvalFault bytes Failed circuit garbled workers labels (Circuit fault) =
    IfSome (bytes circuit) (λ held. HasCircuitFault held (Circuit fault))
HasEvalFault bytes Failed circuit garbled workers labels (File fault) =
    (c : Netlist) × IfSome (bytes circuit) (λ held. IsCircuit held c)
    × HasFilesFault bytes Failed garbled labels (File fault)
HasEvalFault bytes Failed circuit garbled workers labels (Binding fault) =
    (c : Netlist) × ((g : GarbledParts) × ((files : List LabelFileParts)
    × (AreEvalFiles bytes circuit garbled labels c g files
    × HasJobFault c g files workers (Binding fault))))
HasEvalFault bytes Failed circuit garbled workers labels (Evaluation fault) =
    (c : Netlist) × ((g : GarbledParts) × ((files : List LabelFileParts)
    × (AreEvalFiles bytes circuit garbled labels c g files
    × HasJobFault c g files workers (Evaluation fault))))
HasEvalFault bytes Failed circuit garbled workers labels Memory = Unit {0}
HasEvalFault bytes Failed circuit garbled workers labels _ = ⊥

-- The fault is one that `eval` has.
pub record IsEvalFault (bytes : FileBytes) (Failed : List ℕ → Type 0) (circuit garbled : List ℕ)
    (workers : ℕ) (labels : List (List ℕ)) (fault : Fault) : Type 0 where
  pub has : HasEvalFault bytes Failed circuit garbled workers labels fault
