-- Opening labels of output wires.
use Rattle.std.specs.Prelude.{◌≡◌, ◌≢◌, ℕ, ◌+◌, ◌*◌, ◌<◌, ◌≤◌, Bool, List, length, map, slice_get, slice_index, Some}
use Rattle.gc_netlist.specs.Spelling.{bit_number}
use Rattle.gc_half.specs.Evaluation.{encode}
use Rattle.gc_file.specs.LabelFile.{encoded_with}
use Rattle.gc_kept.specs.declared.fault.KeptFault.{KeptFault}
use Rattle.gc_kept.specs.declared.fault.KeptFault.TheVariants.{SmallBuffer, WrongLabel, WrongSize}
use Rattle.gc_kept.specs.Circuit.{HasNoValue}
use Rattle.gc_kept.specs.Files.{IsFileAt}
use Rattle.gc_kept.specs.Garbling.{GarblingWith}
use Rattle.gc_kept.specs.Labels.{AreLabels, first_output_of}

-- The bytes are labels, and that at one place is neither of the two labels of its wire. The places are those of the
-- wires from the first one on.
pub record HasWrongLabel (offset : ℕ) (zero_label : ℕ → ℕ) (first : ℕ) (bytes : List ℕ)
    : Type 0 where
  pub labels : List ℕ
  pub labels_are : AreLabels bytes labels
  pub place : ℕ
  pub label : ℕ
  pub at : slice_get labels place ≡ Some label
  pub wrong : (bit : Bool) → label ≢ encode offset (zero_label (first + place)) bit

-- The bytes are labels of the wires of an output value, and the buffer begins with the bits that they stand for.
pub record AreOpened (g : GarblingWith) (index : ℕ) (labels old new : List ℕ) : Type 0 where
  pub bits : List Bool
  pub width : slice_get g.circuit.output_widths index ≡ Some (length bits)
  pub labels_are : AreLabels labels (encoded_with g.offset (slice_index g.garbling.zero_labels)
      (first_output_of g.circuit index) bits)
  pub buffer : IsFileAt (map bit_number bits) old new

-- The fault of opening labels: no such value, then other labels than one for each of its wires, then a buffer with too
-- little room, then a wrong label.
abbrev pub HasOpenFault : GarblingWith → ℕ → List ℕ → ℕ → KeptFault → Type 0
HasOpenFault g index labels room WrongSize =
    (width : ℕ) × (slice_get g.circuit.output_widths index ≡ Some width)
    × (length labels ≢ 16 * width)
HasOpenFault g index labels room SmallBuffer =
    (width : ℕ) × (slice_get g.circuit.output_widths index ≡ Some width)
    × (length labels ≡ 16 * width) × (room < width)
HasOpenFault g index labels room WrongLabel =
    (width : ℕ) × (slice_get g.circuit.output_widths index ≡ Some width)
    × (length labels ≡ 16 * width) × (width ≤ room)
    × HasWrongLabel g.offset (slice_index g.garbling.zero_labels) (first_output_of g.circuit index)
    labels
HasOpenFault g index labels room fault = HasNoValue g.circuit.output_widths index fault
