-- A garbling in progress with its circuit, and the bytes of its row pairs.
use Rattle.std.specs.Prelude.{◌≡◌, ℕ, ◌-◌, ◌+◌, ◌*◌, ◌/◌, ◌<◌, Bool, IsTrue, List, [], length, map, flat_map, take, drop, min, slice_get, slice_index, Some}
use Rattle.gc_netlist.specs.Circuit.{Netlist, and_count, output_wires}
use Rattle.gc_netlist.specs.Spelling.{bit_number}
use Rattle.gc_label.specs.Label.{colour, label_of_bytes}
use Rattle.gc_label.specs.Seed.{offset_of}
use Rattle.gc_half.specs.declared.garbling.RowPair.{RowPair}
use Rattle.gc_half.specs.Garbling.{GarblingParts, IsGarbledFrom, decode_bits_of}
use Rattle.gc_half.specs.Streaming.{StreamingGarblerParts, IsGarbledSoFar, GarblesPiece, input_labels}
use Rattle.gc_file.specs.GarbledFile.{row_bytes}
use Rattle.gc_audit.specs.Labels.{first_wire_of}
use Rattle.gc_kept.specs.declared.fault.KeptFault.{KeptFault}
use Rattle.gc_kept.specs.declared.fault.KeptFault.TheVariants.{SmallBuffer, Unfinished}
use Rattle.gc_kept.specs.Files.{HasRoomFault, IsFileAt}
use Rattle.gc_kept.specs.Labels.{AreBoth, AreLabels, HasValueLabelsFault, first_output_of}

-- A garbling in progress, with its circuit.
pub record GarblerWith : Type 0 where
  pub circuit : Netlist
  pub garbler : StreamingGarblerParts

-- It is that of this circuit under the seed, and no row pair is made.
pub record IsBegunUnder (c : Netlist) (seed : List ℕ) (g : GarblerWith) : Type 0 where
  pub circuit : g.circuit ≡ c
  pub offset : g.garbler.offset ≡ offset_of seed
  pub first : g.garbler.first ≡ 0
  pub begun : IsGarbledSoFar c (input_labels c seed) [] g.garbler

-- It is that of this circuit from the offset and the zero labels of the input wires that these bytes are, its AND gates
-- numbered from `first` on, and no row pair is made.
pub record IsBegunFrom (c : Netlist) (offset zero_labels : List ℕ) (first : ℕ) (g : GarblerWith)
    : Type 0 where
  pub circuit : g.circuit ≡ c
  pub offset_is : g.garbler.offset ≡ label_of_bytes offset
  pub odd : IsTrue (colour g.garbler.offset)
  pub first_is : g.garbler.first ≡ first
  pub labels : List ℕ
  pub labels_are : AreLabels zero_labels labels
  pub begun : IsGarbledSoFar c labels [] g.garbler

-- All row pairs are made.
abbrev pub IsMade : GarblerWith → Type 0
IsMade g = g.garbler.made ≡ and_count g.circuit

-- The garbler makes a piece, and a buffer begins with the bytes of its row pairs, which are `written`.
pub record MakesPiece (old new : GarblerWith) (before after : List ℕ) (written : ℕ) : Type 0 where
  pub circuit : new.circuit ≡ old.circuit
  pub offset : new.garbler.offset ≡ old.garbler.offset
  pub first : new.garbler.first ≡ old.garbler.first
  pub piece : List RowPair
  pub garbled : GarblesPiece old.circuit old.garbler piece new.garbler
  pub made : new.garbler.made ≡ old.garbler.made + length piece
  pub count : written ≡ 32 * length piece
  pub buffer : IsFileAt (flat_map row_bytes piece) before after

-- It has as many row pairs as the buffer has room for, or as are left: none only where all are made.
pub record IsNextPiece (old new : GarblerWith) (before after : List ℕ) (written : ℕ) : Type 0 where
  pub makes : MakesPiece old new before after written
  pub most : written ≡ 32 * min (length before / 32) (and_count old.circuit - old.garbler.made)
  pub none : written ≡ 0 → IsMade old

-- The fault of the next piece: row pairs are left, and the buffer has no room for one.
abbrev pub HasPieceFault : GarblerWith → ℕ → KeptFault → Type 0
HasPieceFault g room fault = (fault ≡ SmallBuffer) × (room < 32) × (¬ IsMade g)

-- The garbling that a garbler makes, of which it has made some row pairs: that of the circuit with the garbler's offset
-- and first number, from the zero labels of the input wires with which it was begun.
pub record Makes (g : GarblerWith) (all : GarblingParts) : Type 0 where
  pub given : List ℕ
  pub rows : List RowPair
  pub so_far : IsGarbledSoFar g.circuit given rows g.garbler
  pub garbled : IsGarbledFrom g.garbler.offset (slice_index given) g.garbler.first g.circuit all

-- Two buffers begin with both labels of each wire of an input value: those with which the garbler was begun.
pub record AreGivenLabels (g : GarblerWith) (index : ℕ) (zero_old zero_new one_old one_new : List ℕ)
    : Type 0 where
  pub width : ℕ
  pub at : slice_get g.circuit.input_widths index ≡ Some width
  pub labels : List ℕ
  pub given_are : (given : List ℕ) (rows : List RowPair)
      → IsGarbledSoFar g.circuit given rows g.garbler
      → labels ≡ take width (drop (first_wire_of g.circuit index) given)
  pub both : AreBoth g.garbler.offset labels zero_old zero_new one_old one_new

-- All row pairs are made, and they begin with both labels of each wire of an output value.
pub record AreMadeLabels (g : GarblerWith) (index : ℕ) (zero_old zero_new one_old one_new : List ℕ)
    : Type 0 where
  pub whole : IsMade g
  pub width : ℕ
  pub at : slice_get g.circuit.output_widths index ≡ Some width
  pub labels : List ℕ
  pub made_are : (all : GarblingParts) → Makes g all
      → labels ≡ take width (drop (first_output_of g.circuit index) all.zero_labels)
  pub both : AreBoth g.garbler.offset labels zero_old zero_new one_old one_new

-- The fault of output labels: row pairs are left, else that of the labels of a value.
abbrev pub HasMadeLabelsFault : GarblerWith → ℕ → ℕ → ℕ → KeptFault → Type 0
HasMadeLabelsFault g index zero_room one_room Unfinished = ¬ IsMade g
HasMadeLabelsFault g index zero_room one_room fault =
    IsMade g × HasValueLabelsFault g.circuit.output_widths index zero_room one_room fault

-- All row pairs are made, and a buffer begins with the decode bits.
pub record AreMadeBits (g : GarblerWith) (old new : List ℕ) : Type 0 where
  pub whole : IsMade g
  pub bits : List Bool
  pub count : length bits ≡ output_wires g.circuit
  pub made_are : (all : GarblingParts) → Makes g all → bits ≡ decode_bits_of all
  pub buffer : IsFileAt (map bit_number bits) old new

-- The fault of decode bits: row pairs are left, else the buffer has too little room.
abbrev pub HasMadeBitsFault : GarblerWith → ℕ → KeptFault → Type 0
HasMadeBitsFault g room Unfinished = ¬ IsMade g
HasMadeBitsFault g room fault = IsMade g × HasRoomFault (output_wires g.circuit) room fault
