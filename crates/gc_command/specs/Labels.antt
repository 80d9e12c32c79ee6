-- The command `labels`: what it returns, and which fault it has.
use Rattle.std.specs.Prelude.{◌≡◌, ℕ, ◌-◌, Bool, false, List, [], ◌∷◌, take, filter, slice_index, slice_index_or}
use Rattle.std.specs.List.{flat_map, range_with_len}
use Rattle.hex.specs.Hex.{encode_lower}
use Rattle.gc_netlist.specs.Circuit.{Netlist, input_wires}
use Rattle.gc_netlist.specs.Reading.{is_set}
use Rattle.gc_netlist.specs.Spelling.{Number, Name}
use Rattle.gc_netlist.specs.Canon.{line}
use Rattle.gc_circuit.specs.Meaning.{AreWireBits}
use Rattle.gc_circuit.specs.Value.{binary_digit}
use Rattle.gc_label.specs.Label.{◌⊕◌, times, bytes_of_label}
use Rattle.gc_label.specs.Seed.{offset_of}
use Rattle.gc_half.specs.Garbling.{GarblingParts, IsGarbled}
use Rattle.gc_netlist.specs.declared.fault.ReadFault.TheVariants as read
use Rattle.gc_work.specs.declared.fault.WorkFault.TheVariants as work
use Rattle.gc_command.specs.declared.fault.Fault.{Fault}
use Rattle.gc_command.specs.declared.fault.Fault.TheVariants.{Circuit, Garbling, Memory}
use Rattle.gc_command.specs.Input.{IsInput, HasInput, HasInputFault}
use Rattle.gc_command.specs.SeedText.{IsSeed}

-- The wires that are left to go through, and how many wires there are in all.
pub record WiresLeft : Type 0 where
  pub wires : ℕ
  pub left : List ℕ

-- a label as 32 lower case hexadecimal digits
abbrev pub label_digits : ℕ → List ℕ
label_digits label = encode_lower (bytes_of_label label)

-- The line of a wire: its number, its zero label, its active label, and its bit. The active label is the zero label
-- plus the bit times the offset r.
abbrev pub wire_line : ℕ → ℕ → ℕ → Bool → List ℕ
wire_line r w zero_label bit =
    line (Number w ∷ Name (label_digits zero_label)
    ∷ Name (label_digits (zero_label ⊕ times bit r)) ∷ Name (binary_digit bit ∷ []) ∷ [])

-- The line of wire w, by the zero labels and the bits of all wires.
abbrev pub line_of_wire : ℕ → List ℕ → List Bool → ℕ → List ℕ
line_of_wire r zero_labels bits w =
    wire_line r w (slice_index zero_labels w) (slice_index_or bits w false)

-- The wires of a circuit that are set, from one on, by ascending number, at most as many as asked for.
abbrev pub set_from : Netlist → ℕ → ℕ → List ℕ
set_from c from count =
    take count (filter (is_set (input_wires c) c.gates) (range_with_len from (c.wires - from)))

-- The lines are those of the circuit's set wires from one on, for these values, in its garbling under the seed.
pub record AreLabelLines (c : Netlist) (seed : List ℕ) (values : List (List Bool)) (from count : ℕ)
    (lines : List ℕ) : Type 0 where
  pub garbling : GarblingParts
  pub garbled : IsGarbled c seed garbling
  pub bits : List Bool
  pub are_bits : AreWireBits c (flat_map (λ value. value) values) bits
  pub printed : lines ≡ flat_map (line_of_wire (offset_of seed) garbling.zero_labels bits)
      (set_from c from count)

-- What `labels` returns: these lines, for the values that the texts spell.
pub record AnswersLabels (bytes seed_text : List ℕ) (from count : ℕ) (texts : List (List ℕ))
    (lines : List ℕ) : Type 0 where
  pub circuit : Netlist
  pub seed : List ℕ
  pub values : List (List Bool)
  pub input : IsInput bytes seed_text texts circuit values
  pub seed_read : IsSeed seed_text seed
  pub printed : AreLabelLines circuit seed values from count lines

-- The faults of a command that lacks memory while it garbles, evaluates or makes its lines.
abbrev pub IsLinesMemoryFault : Fault → Type 0
IsLinesMemoryFault (Circuit fault) = fault ≡ read.Memory
IsLinesMemoryFault (Garbling fault) = fault ≡ work.Memory
IsLinesMemoryFault Memory = Unit {0}
IsLinesMemoryFault _ = ⊥

-- When `labels` has which fault: those of its input in turn, and then that memory runs out. Where it runs out in the
-- evaluation, that is a fault of the circuit, and in the garbling a fault of garbling.
abbrev pub HasLabelsFault : List ℕ → List ℕ → List (List ℕ) → Fault → Type 0
HasLabelsFault bytes seed texts (Garbling fault) = HasInput bytes seed texts × (fault ≡ work.Memory)
HasLabelsFault bytes seed texts fault = HasInputFault bytes seed texts fault
