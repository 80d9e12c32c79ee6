-- The command `audit`: what it returns, and which fault it has. What is said of a file is said where its bytes are
-- known.
use Rattle.std.specs.Prelude.{◌≡◌, ◌≢◌, ℕ, ◌≤◌, ◌↔◌, ◌⊎◌, ◌&&◌, Bool, true, false, IsTrue, List, [], ◌∷◌, ◌++◌, length, map, slice_get, Option, Some, None, IfSome, codes}
use Rattle.gc_netlist.specs.Circuit.{Netlist}
use Rattle.gc_netlist.specs.Spelling.{Word, Number, Name, bit_number}
use Rattle.gc_netlist.specs.Canon.{line}
use Rattle.gc_circuit.specs.Value.{binary_digit}
use Rattle.gc_label.specs.Seed.{IsSeedText, offset_of, input_label_of}
use Rattle.gc_half.specs.Garbling.{GarblingParts, IsGarbled}
use Rattle.gc_file.specs.declared.parts.Version.{Version}
use Rattle.gc_file.specs.declared.parts.Version.TheVariants.{One, Two}
use Rattle.gc_file.specs.GarbledFile.{GarbledParts}
use Rattle.gc_file.specs.LabelFile.{LabelFileParts}
use Rattle.gc_file.specs.Honest.{honest_parts}
use Rattle.gc_work.specs.declared.fault.WorkFault.TheVariants as work
use Rattle.gc_audit.specs.declared.garbled.GarbledAudit.{GarbledAudit}
use Rattle.gc_audit.specs.declared.garbled.PartsAudit.{PartsAudit}
use Rattle.gc_audit.specs.declared.rows.DifferingRows.{DifferingRows}
use Rattle.gc_audit.specs.declared.rows.DifferingRows.TheVariants.{Generator, Evaluator, Both}
use Rattle.gc_audit.specs.declared.rows.RowDifference.{RowDifference}
use Rattle.gc_audit.specs.declared.entries.EntryDifference.{EntryDifference}
use Rattle.gc_audit.specs.declared.labels.LabelsVerdict.{LabelsVerdict}
use Rattle.gc_audit.specs.declared.labels.LabelsVerdict.TheVariants.{NoValue, WrongWidth, WrongLabel, Bits}
use Rattle.gc_audit.specs.Garbled.{IsGarbledAudit}
use Rattle.gc_audit.specs.Labels.{IsDealt, IsFirstWrong, first_wire_of}
use Rattle.gc_disk.specs.Files.{FileBytes}
use Rattle.gc_command.specs.declared.fault.Fault.{Fault}
use Rattle.gc_command.specs.declared.fault.Fault.TheVariants.{Circuit, BadSeed, File, Garbling, CannotRead, Memory}
use Rattle.gc_command.specs.CircuitFile.{IsCircuit, HasCircuitFault}
use Rattle.gc_command.specs.SeedText.{IsSeed}
use Rattle.gc_command.specs.Eval.{AreEvalFiles, HasFilesFault}

-- the line that says of a part that it is right
abbrev pub right_line : List ℕ → List ℕ
right_line name = line (Name name ∷ Name (codes "right") ∷ [])

-- the line that says of a part where it is wrong
abbrev pub wrong_line : List ℕ → List Word → List ℕ
wrong_line name place = line (Name name ∷ Name (codes "wrong") ∷ place)

-- which rows differ: the generator's, TG, the evaluator's, TE, or both
abbrev pub rows_name : DifferingRows → List ℕ
rows_name Generator = codes "TG"
rows_name Evaluator = codes "TE"
rows_name Both = codes "TG TE"

-- the line of the row pairs: right, or the first AND gate whose pair differs, its place, its wire, and which rows
abbrev pub rows_line : Option RowDifference → List ℕ
rows_line None = right_line (codes "rows")
rows_line (Some d) = wrong_line (codes "rows") (Number d.number
    ∷ Name (codes "gate") ∷ Number d.gate ∷ Name (codes "wire") ∷ Number d.wire
    ∷ Name (rows_name d.rows) ∷ [])

-- the line of the decode bits: right, or the first output whose bit differs
abbrev pub bits_line : Option ℕ → List ℕ
bits_line None = right_line (codes "bits")
bits_line (Some output) = wrong_line (codes "bits") (Number output ∷ [])

-- the line of the entries, which version 2 alone has: right, or the first output and colour whose entry differs
abbrev pub entries_line : Version → Option EntryDifference → List ℕ
entries_line One found = []
entries_line Two None = right_line (codes "entries")
entries_line Two (Some d) =
    wrong_line (codes "entries") (Number d.output ∷ Number (bit_number d.colour) ∷ [])

-- the line of the digest
abbrev pub digest_line : Bool → List ℕ
digest_line true = right_line (codes "digest")
digest_line false = wrong_line (codes "digest") []

-- The lines of the parts that are counted: where the counts are wrong, that alone.
abbrev pub parts_lines : Version → Option PartsAudit → List ℕ
parts_lines version None = wrong_line (codes "counts") []
parts_lines version (Some parts) = right_line (codes "counts") ++ rows_line parts.rows
    ++ bits_line parts.bits ++ entries_line version parts.entries

-- The lines of what is found of a garbled file of a version.
abbrev pub garbled_lines : Version → GarbledAudit → List ℕ
garbled_lines version found = digest_line found.digest ++ parts_lines version found.parts

-- the line of a label file with this index
abbrev pub labels_line : ℕ → List Word → List ℕ
labels_line index found = line (Name (codes "labels") ∷ Number index ∷ found)

-- the bits of a value as a word; no word for no bits
abbrev pub bits_words : List Bool → List Word
bits_words [] = []
bits_words (bit ∷ bits) = Name (map binary_digit (bit ∷ bits)) ∷ []

-- a space and this word, if there is one
abbrev pub value_word : List Bool → List ℕ
value_word [] = []
value_word (bit ∷ bits) = 32 ∷ map binary_digit (bit ∷ bits)

-- The line of a verdict on a label file with this index,
abbrev pub verdict_line : {A : Type 0} → ℕ → LabelsVerdict A → List ℕ
verdict_line index NoValue = labels_line index (Name (codes "no value") ∷ [])
verdict_line index WrongWidth = labels_line index (Name (codes "width") ∷ [])
verdict_line index (WrongLabel wire) = labels_line index (Name (codes "wrong") ∷ Number wire ∷ [])
verdict_line index (Bits bits) = labels_line index (bits_words bits.items)

-- and whether by it the file is the dealer's.
abbrev pub is_dealt : {A : Type 0} → LabelsVerdict A → Bool
is_dealt NoValue = false
is_dealt WrongWidth = false
is_dealt (WrongLabel wire) = false
is_dealt (Bits bits) = true

-- What is found of a label file: whether it is the dealer's, and its line.
pub data IsLabelsFound (c : Netlist) (seed : List ℕ) (file : LabelFileParts)
    : Bool → List ℕ → Type 0 where
  -- There is no input value of its index,
  no_value : length c.input_widths ≤ file.index →
      IsLabelsFound c seed file false (labels_line file.index (Name (codes "no value") ∷ []))
  -- or it has not a label for each wire of the value,
  wrong_width : (width : ℕ) → slice_get c.input_widths file.index ≡ Some width →
      length file.labels ≢ width →
      IsLabelsFound c seed file false (labels_line file.index (Name (codes "width") ∷ []))
  -- or the label of a wire is neither of the two: the first such wire,
  wrong_label : (wire : ℕ) → slice_get c.input_widths file.index ≡ Some (length file.labels) →
      IsFirstWrong (offset_of seed) (input_label_of seed) (first_wire_of c file.index) file.labels
      wire →
      IsLabelsFound c seed file false
      (labels_line file.index (Name (codes "wrong") ∷ Number wire ∷ []))
  -- or it is the dealer's for these bits.
  dealt : (bits : List Bool) → IsDealt c seed file bits →
      IsLabelsFound c seed file true (labels_line file.index (bits_words bits))

-- What is found of label files in turn: whether all are the dealer's, and their lines.
pub data AreLabelsFound (c : Netlist) (seed : List ℕ)
    : List LabelFileParts → Bool → List ℕ → Type 0 where
  none : AreLabelsFound c seed [] true []
  more : (files : List LabelFileParts) (file : LabelFileParts) (all_dealt one_dealt : Bool)
      (lines line_of_file : List ℕ) → AreLabelsFound c seed files all_dealt lines →
      IsLabelsFound c seed file one_dealt line_of_file →
      AreLabelsFound c seed (files ++ file ∷ []) (all_dealt && one_dealt) (lines ++ line_of_file)

-- the last line
abbrev pub end_line : Bool → List ℕ
end_line true = line (Name (codes "honest") ∷ [])
end_line false = line (Name (codes "dishonest") ∷ [])

-- What is found of a garbled file and label files by the circuit and the seed: whether they are honest, and lines. They
-- are honest, and the last line says so, exactly where the garbled file is, byte for byte, that of the circuit's
-- garbling under the seed, and each label file is the dealer's.
pub record AreAuditLines (c : Netlist) (seed : List ℕ) (g : GarbledParts)
    (files : List LabelFileParts) (honest : Bool) (lines : List ℕ) : Type 0 where
  pub garbling : GarblingParts
  pub garbled : IsGarbled c seed garbling
  pub found : GarbledAudit
  pub is_found : IsGarbledAudit c garbling seed g found
  pub all_dealt : Bool
  pub labels_lines : List ℕ
  pub labels_found : AreLabelsFound c seed files all_dealt labels_lines
  pub is_honest : IsTrue honest
      ↔ (g ≡ honest_parts g.version c garbling seed) × IsTrue all_dealt
  pub printed : lines ≡ garbled_lines g.version found ++ labels_lines ++ end_line honest

-- What `audit` prints.
pub record AnswersAudit (bytes : FileBytes) (circuit seed_text garbled : List ℕ)
    (labels : List (List ℕ)) (honest : Bool) (lines : List ℕ) : Type 0 where
  pub c : Netlist
  pub g : GarbledParts
  pub files : List LabelFileParts
  pub input : AreEvalFiles bytes circuit garbled labels c g files
  pub seed : List ℕ
  pub seed_read : IsSeed seed_text seed
  pub printed : AreAuditLines c seed g files honest lines

-- When `audit` has which fault: it is the first in the order of the work (the circuit, the seed, the garbled file, the
-- label files in turn, garbling, where memory alone may run out), but that memory may run out at each step. A file that
-- can't be read has failed, and each file before it, and the seed, is what it must be.
abbrev pub HasAuditFault : FileBytes → (List ℕ → Type 0) → List ℕ → List ℕ → List ℕ
    → List (List ℕ) → Fault → Type 0
HasAuditFault bytes Failed circuit seed garbled labels CannotRead =
    Failed circuit
    ⊎ ((c : Netlist) × IfSome (bytes circuit) (λ held. IsCircuit held c) × IsSeedText seed
    × HasFilesFault bytes Failed garbled labels CannotRead)
HasAuditFault bytes Failed circuit seed garbled labels (Circuit fault) =
    IfSome (bytes circuit) (λ held. HasCircuitFault held (Circuit fault))
HasAuditFault bytes Failed circuit seed garbled labels BadSeed =
    ((c : Netlist) × IfSome (bytes circuit) (λ held. IsCircuit held c)) × ¬ IsSeedText seed
HasAuditFault bytes Failed circuit seed garbled labels (File fault) =
    (c : Netlist) × IfSome (bytes circuit) (λ held. IsCircuit held c) × IsSeedText seed
    × HasFilesFault bytes Failed garbled labels (File fault)
HasAuditFault bytes Failed circuit seed garbled labels (Garbling fault) =
    (c : Netlist) × ((g : GarbledParts) × ((files : List LabelFileParts)
    × (AreEvalFiles bytes circuit garbled labels c g files × IsSeedText seed
    × (fault ≡ work.Memory))))
HasAuditFault bytes Failed circuit seed garbled labels Memory = Unit {0}
HasAuditFault bytes Failed circuit seed garbled labels _ = ⊥

-- The fault is one that `audit` has.
pub record IsAuditFault (bytes : FileBytes) (Failed : List ℕ → Type 0)
    (circuit seed garbled : List ℕ) (labels : List (List ℕ)) (fault : Fault) : Type 0 where
  pub has : HasAuditFault bytes Failed circuit seed garbled labels fault
