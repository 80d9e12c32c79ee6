-- The label file: what it holds, and its bytes.
use Rattle.std.specs.Prelude.{◌≡◌, ℕ, ◌<◌, ◌≤◌, ◌^◌, Bool, List, ◌++◌, length, flat_map, map, take, sum, codes, All}
use Rattle.std.specs.List.{zip, range_with_len}
use Rattle.gc_netlist.specs.declared.limits.TheConstants.{MAX_WIRES}
use Rattle.gc_netlist.specs.Circuit.{Netlist}
use Rattle.gc_label.specs.Label.{bytes_of_label}
use Rattle.gc_label.specs.Seed.{offset_of, input_label_of}
use Rattle.gc_half.specs.Evaluation.{encode}
use Rattle.gc_file.specs.Number.{number_bytes}
use Rattle.gc_file.specs.GarbledFile.{IsLabel}

-- What a label file holds: the index of an input value, and the label of each of its wires, in wire order.
pub record LabelFileParts : Type 0 where
  pub index : ℕ
  pub labels : List ℕ

abbrev pub label_magic : List ℕ
label_magic = codes "HLABELS1"

-- The label file: the magic, the index, how many labels there are, and the labels.
unfoldable pub label_file : LabelFileParts → List ℕ
label_file p = label_magic ++ number_bytes p.index ++ number_bytes (length p.labels) ++ flat_map
    bytes_of_label p.labels

-- The bytes are the label file with these parts.
pub record IsLabelFile (bytes : List ℕ) (p : LabelFileParts) : Type 0 where
  pub index : p.index < 2 ^ 32
  pub few_labels : length p.labels ≤ MAX_WIRES
  pub labels : All IsLabel p.labels
  pub spelled : bytes ≡ label_file p

-- The labels that stand for these bits on the wires from the first one on, with an offset and a zero label on each
-- wire.
abbrev pub encoded_with : ℕ → (ℕ → ℕ) → ℕ → List Bool → List ℕ
encoded_with offset zero_label first bits =
    map (λ (p : ℕ × Bool). encode offset (zero_label p.0) p.1)
    (zip (range_with_len first (length bits)) bits)

-- The same on input wires, under a seed.
abbrev pub encoded_from : ℕ → List ℕ → List Bool → List ℕ
encoded_from first seed bits = encoded_with (offset_of seed) (input_label_of seed) first bits

-- The parts of the label file of an input value with these bits: the encoded labels of its wires.
abbrev pub label_parts_with : Netlist → ℕ → (ℕ → ℕ) → ℕ → List Bool → LabelFileParts
label_parts_with c offset zero_label index bits = record {
  index = index;
  labels = encoded_with offset zero_label (sum (take index c.input_widths)) bits;
}

-- The same under a seed.
abbrev pub label_parts_of : Netlist → List ℕ → ℕ → List Bool → LabelFileParts
label_parts_of c seed index bits =
    label_parts_with c (offset_of seed) (input_label_of seed) index bits
