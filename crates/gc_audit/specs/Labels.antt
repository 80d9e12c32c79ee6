-- What an audit finds of a label file.
use Rattle.std.specs.Prelude.{◌≡◌, ◌≢◌, ℕ, ◌<◌, ◌≤◌, ◌+◌, Bool, List, length, take, sum, slice_get, slice_index, Some}
use Rattle.gc_netlist.specs.Circuit.{Netlist, input_wires}
use Rattle.gc_label.specs.Seed.{offset_of, input_label_of}
use Rattle.gc_half.specs.Evaluation.{encode}
use Rattle.gc_half.specs.Garbling.{GarblingParts}
use Rattle.gc_file.specs.LabelFile.{LabelFileParts, encoded_with, label_parts_with}
use Rattle.gc_audit.specs.declared.labels.LabelsVerdict.{LabelsVerdict}
use Rattle.gc_audit.specs.declared.labels.LabelsVerdict.TheVariants.{Bits, WrongLabel, WrongWidth, NoValue}

-- The first wire of an input value.
abbrev pub first_wire_of : Netlist → ℕ → ℕ
first_wire_of c index = sum (take index c.input_widths)

-- The garbling has these zero labels on the input wires.
abbrev pub HasInputLabels : Netlist → GarblingParts → (ℕ → ℕ) → Type 0
HasInputLabels c g zero_label = (w : ℕ) → w < input_wires c
    → slice_index g.zero_labels w ≡ zero_label w

-- The file is the dealer's for these bits, with an offset and zero labels of the input wires: there is an input value
-- of the file's index, of as many wires as bits, and the file's labels stand for the bits on these wires.
pub record IsDealtWith (c : Netlist) (offset : ℕ) (zero_label : ℕ → ℕ) (file : LabelFileParts)
    (bits : List Bool) : Type 0 where
  pub width : slice_get c.input_widths file.index ≡ Some (length bits)
  pub parts : file ≡ label_parts_with c offset zero_label file.index bits

-- Labels are compared with those of the wires from the first one on. This wire is the first, by the circuit's numbers,
-- whose label is neither its zero label nor its one label: the labels before it stand for bits, and this one for none.
pub record IsFirstWrong (offset : ℕ) (zero_label : ℕ → ℕ) (first : ℕ) (labels : List ℕ)
    (wire : ℕ) : Type 0 where
  pub place : ℕ
  pub wire_at : wire ≡ first + place
  pub bits : List Bool
  pub before : take place labels ≡ encoded_with offset zero_label first bits
  pub label : ℕ
  pub at : slice_get labels place ≡ Some label
  pub wrong : (bit : Bool) → label ≢ encode offset (zero_label wire) bit

-- What is found of a label file by the circuit, an offset and zero labels of the input wires: that there is no input
-- value of its index, that it has not a label for each wire of the value, its first wrong label, or the bits that its
-- labels stand for.
abbrev pub IsVerdictWith : {A : Type 0} → Netlist → ℕ → (ℕ → ℕ) → LabelFileParts → LabelsVerdict A
    → Type 0
IsVerdictWith c offset zero_label file NoValue = length c.input_widths ≤ file.index
IsVerdictWith c offset zero_label file WrongWidth =
    (width : ℕ) × (slice_get c.input_widths file.index ≡ Some width) × (length file.labels ≢ width)
IsVerdictWith c offset zero_label file (WrongLabel wire) =
    (slice_get c.input_widths file.index ≡ Some (length file.labels))
    × IsFirstWrong offset zero_label (first_wire_of c file.index) file.labels wire
IsVerdictWith c offset zero_label file (Bits bits) =
    IsDealtWith c offset zero_label file bits.items

-- The same under a seed: the file is the dealer's for these bits,
abbrev pub IsDealt : Netlist → List ℕ → LabelFileParts → List Bool → Type 0
IsDealt c seed file bits = IsDealtWith c (offset_of seed) (input_label_of seed) file bits

-- and this is found of it.
abbrev pub IsLabelsVerdict : {A : Type 0} → Netlist → List ℕ → LabelFileParts → LabelsVerdict A
    → Type 0
IsLabelsVerdict c seed file verdict =
    IsVerdictWith c (offset_of seed) (input_label_of seed) file verdict

-- What is found of labels that are those of an input value, from its first wire on.
abbrev pub IsVerdictFrom : {A : Type 0} → ℕ → (ℕ → ℕ) → ℕ → List ℕ → LabelsVerdict A → Type 0
IsVerdictFrom offset zero_label first labels NoValue = ⊥
IsVerdictFrom offset zero_label first labels WrongWidth = ⊥
IsVerdictFrom offset zero_label first labels (WrongLabel wire) =
    IsFirstWrong offset zero_label first labels wire
IsVerdictFrom offset zero_label first labels (Bits bits) =
    labels ≡ encoded_with offset zero_label first bits.items

-- The verdict is these bits.
abbrev pub HasBits : {A : Type 0} → LabelsVerdict A → List Bool → Type 0
HasBits NoValue bits = ⊥
HasBits WrongWidth bits = ⊥
HasBits (WrongLabel wire) bits = ⊥
HasBits (Bits found) bits = found.items ≡ bits
