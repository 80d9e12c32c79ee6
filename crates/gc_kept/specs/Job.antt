-- Jobs of files in memory.
use Rattle.std.specs.Prelude.{◌≢◌, ◌⊎◌, ◌<◌, ◌≤◌, ℕ, Bool, IsTrue, List, map, Ok, Err}
use Rattle.gc_netlist.specs.Circuit.{Netlist, output_wires}
use Rattle.gc_netlist.specs.Spelling.{bit_number}
use Rattle.gc_file.specs.GarbledFile.{GarbledParts, IsGarbledFile}
use Rattle.gc_file.specs.LabelFile.{LabelFileParts}
use Rattle.gc_file.specs.declared.fault.FileFault.{FileFault}
use Rattle.gc_file.specs.declared.fault.FileFault.TheVariants as file
use Rattle.gc_file.specs.FileFault.{FirstGarbledFault}
use Rattle.gc_job.specs.declared.fault.BindFault.{BindFault}
use Rattle.gc_job.specs.declared.fault.BindFault.TheVariants as bind
use Rattle.gc_job.specs.Job.{JobParts}
use Rattle.gc_job.specs.Binding.{FirstBindFault, IsBound}
use Rattle.gc_job.specs.Evaluate.{IsEvaluated}
use Rattle.gc_kept.specs.declared.fault.KeptFault.{KeptFault}
use Rattle.gc_kept.specs.declared.fault.KeptFault.TheVariants.{File, Binding, Evaluation, SmallBuffer, Memory}
use Rattle.gc_kept.specs.Circuit.{CircuitWith, HasNoDigest}
use Rattle.gc_kept.specs.Files.{IsFileAt}
use Rattle.gc_kept.specs.LabelFiles.{AreJoinedFiles, HasJoinedFilesFault}

-- The job is that of the circuit, the garbled file and the label files that these bytes are.
pub record IsBoundJob (c : Netlist) (garbled labels lengths : List ℕ) (job : JobParts)
    : Type 0 where
  pub parts : GarbledParts
  pub garbled_file : IsGarbledFile garbled parts
  pub files : List LabelFileParts
  pub label_files : AreJoinedFiles labels lengths files
  pub bound : IsBound c parts files job

-- The fault of such bytes: the first of the garbled file, then that of the label files, then the first of binding them.
-- Memory may be missing instead.
pub data HasKeptJobFault (c : Netlist) (garbled labels lengths : List ℕ) : KeptFault → Type 0 where
  of_garbled : (fault : FileFault) → (fault ≢ file.Memory → FirstGarbledFault garbled fault)
      → HasKeptJobFault c garbled labels lengths (File fault)
  of_labels : (parts : GarbledParts) (fault : KeptFault) → IsGarbledFile garbled parts
      → HasJoinedFilesFault labels lengths fault → HasKeptJobFault c garbled labels lengths fault
  of_binding : (parts : GarbledParts) (files : List LabelFileParts) (fault : BindFault)
      → IsGarbledFile garbled parts → AreJoinedFiles labels lengths files
      → (fault ≢ bind.Memory → FirstBindFault c parts files fault)
      → HasKeptJobFault c garbled labels lengths (Binding fault)
  want : HasKeptJobFault c garbled labels lengths Memory

-- The fault of binding them to a circuit: it has no digest, else that of the bytes.
abbrev pub HasBoundJobFault : CircuitWith → (garbled labels lengths : List ℕ) → KeptFault → Type 0
HasBoundJobFault c garbled labels lengths fault = HasNoDigest c fault
    ⊎ (IsTrue c.has_digest × HasKeptJobFault c.netlist garbled labels lengths fault)

-- The buffer begins with the output bits that an evaluation of the job decodes to.
pub record HasOutputBits (job : JobParts) (old new : List ℕ) : Type 0 where
  pub bits : List Bool
  pub evaluated : IsEvaluated job (Ok bits)
  pub buffer : IsFileAt (map bit_number bits) old new

-- The fault of an evaluation: the buffer has too little room, then that of the job.
abbrev pub HasEvaluationFault : JobParts → ℕ → KeptFault → Type 0
HasEvaluationFault job room SmallBuffer = room < output_wires job.circuit
HasEvaluationFault job room (Evaluation fault) =
    (output_wires job.circuit ≤ room) × IsEvaluated job (Err fault)
HasEvaluationFault job room _ = ⊥
