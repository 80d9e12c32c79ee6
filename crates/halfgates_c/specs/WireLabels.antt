-- The labels of a wire.
use Rattle.std.specs.Prelude.{◌≡◌, ◌+◌, ◌<◌, ◌≤◌, ℕ, Bool, List, length, slice_get, Some}
use Rattle.gc_label.specs.Label.{bytes_of_label}
use Rattle.gc_netlist.specs.Circuit.{input_wires}
use Rattle.gc_netlist.specs.Spelling.{bit_number}
use Rattle.gc_circuit.specs.Meaning.{bits_of}
use Rattle.gc_half.specs.Evaluation.{encode}
use Rattle.gc_kept.specs.Bits.{HasBitsFault}
use Rattle.gc_kept.specs.Garbling.{GarblingWith}
use Rattle.gc_kept.specs.Wires.{AreBitsOn}
use Rattle.gc_kept.specs.declared.fault.KeptFault.{KeptFault}
use Rattle.gc_kept.specs.declared.fault.KeptFault.TheVariants.{BadArgument}
use Rattle.halfgates_c.specs.declared.wires.WireLabels.{WireLabels}

-- They are the wire's zero label, and the label that stands for the bit.
pub record AreWireLabels (g : GarblingWith) (wire : ℕ) (bit : Bool) (l : WireLabels)
    : Type 0 where
  pub label : ℕ
  pub at : slice_get g.garbling.zero_labels wire ≡ Some label
  pub zero_is : l.zero ≡ bytes_of_label label
  pub active_is : l.active ≡ bytes_of_label (encode g.offset label bit)
  pub bit_is : l.bit ≡ bit_number bit

-- They are the labels of the wires from one on, in order, for the bits on all wires.
abbrev pub AreLabelsFrom : GarblingWith → List Bool → (from : ℕ) → List WireLabels → Type 0
AreLabelsFrom g all from labels = (i : ℕ) (l : WireLabels) → slice_get labels i ≡ Some l
    → AreWireLabels g (from + i) (bits_of all (from + i)) l

-- They are the labels of the wires from one on, in order, for the input bits that these bytes are.
pub record AreLabelsOn (g : GarblingWith) (inputs : List ℕ) (from : ℕ) (labels : List WireLabels)
    : Type 0 where
  pub within : from + length labels ≤ g.circuit.wires
  pub all : List Bool
  pub bits : AreBitsOn g.circuit inputs all
  pub each : AreLabelsFrom g all from labels

-- There are no such wires, else the bytes are no bits of all input wires.
abbrev pub HasWiresFault : GarblingWith → List ℕ → (from count : ℕ) → KeptFault → Type 0
HasWiresFault g inputs from count BadArgument = g.circuit.wires < from + count
HasWiresFault g inputs from count fault =
    (from + count ≤ g.circuit.wires) × HasBitsFault inputs (input_wires g.circuit) fault
