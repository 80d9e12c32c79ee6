-- What is found of files in memory.
use Rattle.std.specs.Prelude.{◌≡◌, ◌≢◌, ◌⊎◌, ◌↔◌, ℕ, ◌*◌, Bool, List, None, length, map, slice_index}
use Rattle.gc_netlist.specs.Circuit.{and_count, output_wires}
use Rattle.gc_netlist.specs.Spelling.{bit_number}
use Rattle.gc_half.specs.declared.garbling.RowPair.{RowPair}
use Rattle.gc_file.specs.declared.parts.Version.{Version}
use Rattle.gc_file.specs.GarbledFile.{GarbledParts, IsGarbledFile}
use Rattle.gc_file.specs.LabelFile.{LabelFileParts, IsLabelFile}
use Rattle.gc_file.specs.declared.fault.FileFault.TheVariants as file
use Rattle.gc_file.specs.FileFault.{FirstGarbledFault, FirstLabelFault}
use Rattle.gc_file.specs.Honest.{honest_parts_with}
use Rattle.gc_job.specs.declared.fault.EvalFault.TheVariants as eval
use Rattle.gc_audit.specs.declared.garbled.GarbledAudit.{GarbledAudit}
use Rattle.gc_audit.specs.declared.labels.LabelsVerdict.{LabelsVerdict}
use Rattle.gc_audit.specs.Garbled.{IsBitsAudit, IsGarbledAuditWith, IsRowsAudit, honest_audit}
use Rattle.gc_audit.specs.Labels.{IsVerdictWith}
use Rattle.gc_kept.specs.declared.fault.KeptFault.{KeptFault}
use Rattle.gc_kept.specs.declared.fault.KeptFault.TheVariants.{File, Evaluation, WrongSize}
use Rattle.gc_kept.specs.declared.audit.RowsAudit.{RowsAudit}
use Rattle.gc_kept.specs.Bits.{HasBitsFault}
use Rattle.gc_kept.specs.Garbling.{GarblingWith, HasFiles, HasNoFiles}
use Rattle.gc_kept.specs.Labels.{AreRows}

-- The garbling has garbled files, and the bytes are one of this version, of which this is found; nothing differs
-- exactly where it is honest.
pub record IsAuditOf (g : GarblingWith) (bytes : List ℕ) (version : Version)
    (audit : GarbledAudit) : Type 0 where
  pub has : HasFiles g
  pub parts : GarbledParts
  pub file : IsGarbledFile bytes parts
  pub version_is : version ≡ parts.version
  pub found : IsGarbledAuditWith g.circuit g.garbling g.offset parts audit
  pub honest : (audit ≡ honest_audit)
      ↔ (parts ≡ honest_parts_with parts.version g.circuit g.garbling g.offset)

-- The first fault of bytes that are no garbled file. Memory may be missing instead.
abbrev pub HasGarbledFileFault : List ℕ → KeptFault → Type 0
HasGarbledFileFault bytes (File fault) = fault ≢ file.Memory → FirstGarbledFault bytes fault
HasGarbledFileFault bytes _ = ⊥

-- The fault of an audit: that of a garbling without files, then that of the bytes.
abbrev pub HasGarbledAuditFault : GarblingWith → List ℕ → KeptFault → Type 0
HasGarbledAuditFault g bytes fault =
    HasNoFiles g fault ⊎ (HasFiles g × HasGarbledFileFault bytes fault)

-- What is found of row pairs and decode bits where nothing differs.
abbrev pub honest_rows : RowsAudit
honest_rows = record { rows = None; bits = None }

-- The bytes are a row pair for each AND gate and a decode bit for each output wire, of which this is found: of each the
-- first difference from the garbling, or that there is none.
pub record IsRowsAuditOf (g : GarblingWith) (bytes decode_bits : List ℕ) (audit : RowsAudit)
    : Type 0 where
  pub rows : List RowPair
  pub rows_are : AreRows bytes rows
  pub row_count : length rows ≡ and_count g.circuit
  pub bits : List Bool
  pub bits_are : decode_bits ≡ map bit_number bits
  pub bit_count : length bits ≡ output_wires g.circuit
  pub found_rows : IsRowsAudit g.circuit g.garbling rows audit.rows
  pub found_bits : IsBitsAudit g.garbling bits audit.bits

-- The fault of such bytes: there are other row pairs than one for each AND gate, else that of the decode bits.
abbrev pub HasRowsAuditFault : GarblingWith → List ℕ → List ℕ → KeptFault → Type 0
HasRowsAuditFault g bytes decode_bits WrongSize = length bytes ≢ 32 * and_count g.circuit
HasRowsAuditFault g bytes decode_bits fault = (length bytes ≡ 32 * and_count g.circuit)
    × HasBitsFault decode_bits (output_wires g.circuit) fault

-- The bytes are a label file of this index, of which this is found.
pub record IsLabelsAuditOf {A : Type 0} (g : GarblingWith) (bytes : List ℕ) (index : ℕ)
    (verdict : LabelsVerdict A) : Type 0 where
  pub parts : LabelFileParts
  pub file : IsLabelFile bytes parts
  pub index_is : index ≡ parts.index
  pub found : IsVerdictWith g.circuit g.offset (slice_index g.garbling.zero_labels) parts verdict

-- The fault of such bytes: the first where they are no label file. Memory may be missing instead.
abbrev pub HasLabelsAuditFault : List ℕ → KeptFault → Type 0
HasLabelsAuditFault bytes (File fault) = fault ≢ file.Memory → FirstLabelFault bytes fault
HasLabelsAuditFault bytes (Evaluation fault) = fault ≡ eval.Memory
HasLabelsAuditFault bytes _ = ⊥
