-- Binding a garbled file and label files to a circuit: when they are a job, and why they are none.
use Rattle.std.specs.Prelude.{◌≡◌, ◌≢◌, ℕ, ◌<◌, ◌≤◌, List, length, sum, take, drop, slice_get, Some}
use Rattle.sha2.specs.Sha256.{sha256}
use Rattle.gc_netlist.specs.Circuit.{Netlist, output_wires, and_count}
use Rattle.gc_netlist.specs.Canon.{canonical_text}
use Rattle.gc_file.specs.GarbledFile.{GarbledParts}
use Rattle.gc_file.specs.LabelFile.{LabelFileParts}
use Rattle.gc_job.specs.declared.fault.BindFault.{BindFault}
use Rattle.gc_job.specs.declared.fault.BindFault.TheVariants.{OtherCircuit, OtherCounts, NoSuchValue, WrongWidth, DoubleValue, MissingValue}
use Rattle.gc_job.specs.Job.{JobParts, job_of}

-- The garbled file is that of the circuit: it has the digest of its canonical text, by SHA-256 (FIPS 180-4).
abbrev pub IsOfCircuit : Netlist → GarbledParts → Type 0
IsOfCircuit c g = g.digest ≡ sha256 (canonical_text c)

-- It has a row pair for each AND gate and a decode bit for each output wire.
pub record HasCounts (c : Netlist) (g : GarbledParts) : Type 0 where
  pub rows : length g.rows ≡ and_count c
  pub decode_bits : length g.decode_bits ≡ output_wires c

-- One of the files is for this input value.
pub record HasFile (files : List LabelFileParts) (value : ℕ) : Type 0 where
  pub place : ℕ
  pub file : LabelFileParts
  pub at : slice_get files place ≡ Some file
  pub index : file.index ≡ value

-- A file is in order after others: there is its input value, of as many wires as the file has labels, and none of the
-- others is for it. The widths are those of the input values.
pub record IsFileInOrder (widths : List ℕ) (before : List LabelFileParts) (file : LabelFileParts)
    : Type 0 where
  pub width : slice_get widths file.index ≡ Some (length file.labels)
  pub first : HasFile before file.index → ⊥

-- The first n files are in order, each after those before it.
abbrev pub AreInOrder : List ℕ → List LabelFileParts → ℕ → Type 0
AreInOrder widths files n =
    (i : ℕ) (file : LabelFileParts) → i < n → slice_get files i ≡ Some file
    → IsFileInOrder widths (take i files) file

-- The fault of a file after others.
pub data LabelsFault (widths : List ℕ) (before : List LabelFileParts) (file : LabelFileParts)
    : BindFault → Type 0 where
  no_such_value : length widths ≤ file.index → LabelsFault widths before file NoSuchValue
  wrong_width : (width : ℕ) → slice_get widths file.index ≡ Some width → length file.labels ≢ width
      → LabelsFault widths before file WrongWidth
  double_value : slice_get widths file.index ≡ Some (length file.labels) → HasFile before file.index
      → LabelsFault widths before file DoubleValue

-- The first fault of the files: that of the first file that has one or, where all are in order, that an input value has
-- none.
pub data FirstLabelsFault (widths : List ℕ) (files : List LabelFileParts) : BindFault → Type 0 where
  of_file : (i : ℕ) (file : LabelFileParts) (fault : BindFault) → AreInOrder widths files i
      → slice_get files i ≡ Some file → LabelsFault widths (take i files) file fault
      → FirstLabelsFault widths files fault
  missing_value : (value : ℕ) → AreInOrder widths files (length files) → value < length widths
      → (HasFile files value → ⊥) → FirstLabelsFault widths files MissingValue

-- The first fault of a garbled file and label files that are no job for the circuit.
pub data FirstBindFault (c : Netlist) (g : GarbledParts) (files : List LabelFileParts)
    : BindFault → Type 0 where
  other_circuit : (IsOfCircuit c g → ⊥) → FirstBindFault c g files OtherCircuit
  other_counts : IsOfCircuit c g → (HasCounts c g → ⊥) → FirstBindFault c g files OtherCounts
  of_labels : (fault : BindFault) → IsOfCircuit c g → HasCounts c g
      → FirstLabelsFault c.input_widths files fault
      → FirstBindFault c g files fault

-- The input labels are those of the files: where a file is for an input value, the labels from that value's first wire
-- on are the file's.
abbrev pub AreLabelsOf : List ℕ → List LabelFileParts → List ℕ → Type 0
AreLabelsOf widths files labels =
    (i : ℕ) (file : LabelFileParts) → slice_get files i ≡ Some file →
    take (length file.labels) (drop (sum (take file.index widths)) labels) ≡ file.labels

-- Each input value has a file, all files are in order, and the labels are theirs, one for each input wire.
pub record AreBound (widths : List ℕ) (files : List LabelFileParts) (labels : List ℕ) : Type 0 where
  pub in_order : AreInOrder widths files (length files)
  pub whole : (value : ℕ) → value < length widths → HasFile files value
  pub count : length labels ≡ sum widths
  pub from_files : AreLabelsOf widths files labels

-- The job is that of the circuit, the garbled file and the label files.
pub record IsBound (c : Netlist) (g : GarbledParts) (files : List LabelFileParts) (job : JobParts)
    : Type 0 where
  pub of_circuit : IsOfCircuit c g
  pub counts : HasCounts c g
  pub labels : AreBound c.input_widths files job.inputs
  pub parts : job ≡ job_of c g job.inputs
