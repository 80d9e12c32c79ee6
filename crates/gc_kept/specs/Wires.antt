-- What a garbling has for a wire.
use Rattle.std.specs.Prelude.{◌≡◌, ◌≤◌, ℕ, Bool, List, length, map, slice_get, Some}
use Rattle.gc_netlist.specs.Circuit.{Netlist, input_wires}
use Rattle.gc_netlist.specs.Spelling.{bit_number}
use Rattle.gc_circuit.specs.Meaning.{AreWireBits}
use Rattle.gc_label.specs.Label.{bytes_of_label}
use Rattle.gc_half.specs.Garbling.{decode_bits_of}
use Rattle.gc_kept.specs.Garbling.{GarblingWith}
use Rattle.gc_kept.specs.declared.fault.KeptFault.{KeptFault}
use Rattle.gc_kept.specs.declared.fault.KeptFault.TheVariants.{BadArgument}

-- The bytes are the zero label of a wire.
pub record IsZeroLabel (g : GarblingWith) (wire : ℕ) (bytes : List ℕ) : Type 0 where
  pub label : ℕ
  pub at : slice_get g.garbling.zero_labels wire ≡ Some label
  pub bytes_are : bytes ≡ bytes_of_label label

-- The byte is the decode bit of an output wire.
pub record IsDecodeBit (g : GarblingWith) (output byte : ℕ) : Type 0 where
  pub bit : Bool
  pub at : slice_get (decode_bits_of g.garbling) output ≡ Some bit
  pub byte_is : byte ≡ bit_number bit

-- The fault where there is no such wire,
abbrev pub HasNoWire : GarblingWith → ℕ → KeptFault → Type 0
HasNoWire g wire fault = (fault ≡ BadArgument) × (length g.garbling.zero_labels ≤ wire)

-- and where there is no such output wire.
abbrev pub HasNoOutput : GarblingWith → ℕ → KeptFault → Type 0
HasNoOutput g output fault = (fault ≡ BadArgument) × (g.garbling.outputs ≤ output)

-- The bits on all wires, for the input bits that these bytes are.
pub record AreBitsOn (c : Netlist) (inputs : List ℕ) (all : List Bool) : Type 0 where
  pub bits : List Bool
  pub count : length bits ≡ input_wires c
  pub inputs_are : inputs ≡ map bit_number bits
  pub meaning : AreWireBits c bits all
