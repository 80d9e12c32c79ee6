-- Files in the buffers of callers.
use Rattle.std.specs.Prelude.{◌≡◌, ◌⊎◌, ℕ, ◌<◌, ◌≤◌, Bool, List, ◌++◌, length, map, drop, slice_get, slice_index, Some}
use Rattle.gc_netlist.specs.Circuit.{Netlist}
use Rattle.gc_netlist.specs.Spelling.{bit_number}
use Rattle.gc_label.specs.Seed.{offset_of, input_label_of}
use Rattle.gc_file.specs.declared.parts.Version.{Version}
use Rattle.gc_file.specs.GarbledFile.{garbled_file}
use Rattle.gc_file.specs.LabelFile.{label_file, label_parts_with}
use Rattle.gc_file.specs.Honest.{honest_parts_with}
use Rattle.gc_job.specs.declared.fault.BindFault.TheVariants as bind
use Rattle.gc_kept.specs.declared.fault.KeptFault.{KeptFault}
use Rattle.gc_kept.specs.declared.fault.KeptFault.TheVariants.{Binding, SmallBuffer, NeedsRoom, Memory}
use Rattle.gc_kept.specs.Bits.{HasBitsFault}
use Rattle.gc_kept.specs.Garbling.{GarblingWith, HasFiles, HasNoFiles}

-- The buffer begins with the file, and is as it was after it.
abbrev pub IsFileAt : List ℕ → List ℕ → List ℕ → Type 0
IsFileAt file old new = new ≡ file ++ drop (length file) old

-- The buffer begins with the file, and this is its length.
abbrev pub IsWholeFileAt : List ℕ → List ℕ → List ℕ → ℕ → Type 0
IsWholeFileAt file old new written = IsFileAt file old new × (written ≡ length file)

-- A buffer has too little room for a file of this length.
abbrev pub HasRoomFault : ℕ → ℕ → KeptFault → Type 0
HasRoomFault length_of room fault = (fault ≡ SmallBuffer) × (room < length_of)

-- The same with the length in the fault.
abbrev pub LacksRoom : ℕ → ℕ → KeptFault → Type 0
LacksRoom length_of room fault = (fault ≡ NeedsRoom length_of) × (room < length_of)

-- The fault of writing a file: the room is too little. Memory may be missing instead.
abbrev pub HasWriteFault : List ℕ → ℕ → KeptFault → Type 0
HasWriteFault file room (NeedsRoom size) = (room < length file) × (size ≡ length file)
HasWriteFault file room Memory = Unit {0}
HasWriteFault file room _ = ⊥

-- The garbled file of a garbling.
abbrev pub file_of : GarblingWith → Version → List ℕ
file_of g version = garbled_file (honest_parts_with version g.circuit g.garbling g.offset)

-- The garbling has garbled files, and the buffer begins with that of this version, which has this length.
pub record IsGarbledAt (g : GarblingWith) (version : Version) (old new : List ℕ) (written : ℕ)
    : Type 0 where
  pub has : HasFiles g
  pub file : IsFileAt (file_of g version) old new
  pub count : written ≡ length (file_of g version)

-- The fault of writing it: that of a garbling without files, else that of writing a file.
abbrev pub HasGarbledWriteFault : GarblingWith → Version → ℕ → KeptFault → Type 0
HasGarbledWriteFault g version room fault =
    HasNoFiles g fault ⊎ (HasFiles g × HasWriteFault (file_of g version) room fault)

-- The buffer begins with the label file of the bits that these bytes are, with an offset and zero labels of the input
-- wires, and this is its length.
pub record IsLabelFileAt (c : Netlist) (offset : ℕ) (zero_label : ℕ → ℕ) (index : ℕ)
    (bytes old new : List ℕ) (written : ℕ) : Type 0 where
  pub bits : List Bool
  pub bytes_are : bytes ≡ map bit_number bits
  pub width : slice_get c.input_widths index ≡ Some (length bits)
  pub file : IsFileAt (label_file (label_parts_with c offset zero_label index bits)) old new
  pub count : written ≡ length (label_file (label_parts_with c offset zero_label index bits))

-- The fault of dealing: no such value, then that of the bits, then that of writing the file.
pub data HasDealtFaultWith (c : Netlist) (offset : ℕ) (zero_label : ℕ → ℕ) (index : ℕ)
    (bytes : List ℕ) (room : ℕ) : KeptFault → Type 0 where
  no_value : length c.input_widths ≤ index
      → HasDealtFaultWith c offset zero_label index bytes room (Binding bind.NoSuchValue)
  of_bits : (width : ℕ) (fault : KeptFault) → slice_get c.input_widths index ≡ Some width
      → HasBitsFault bytes width fault
      → HasDealtFaultWith c offset zero_label index bytes room fault
  of_file : (bits : List Bool) (fault : KeptFault) → bytes ≡ map bit_number bits
      → slice_get c.input_widths index ≡ Some (length bits)
      → HasWriteFault (label_file (label_parts_with c offset zero_label index bits)) room fault
      → HasDealtFaultWith c offset zero_label index bytes room fault

-- The same under a seed,
abbrev pub IsDealtAt : Netlist → List ℕ → ℕ → List ℕ → List ℕ → List ℕ → ℕ → Type 0
IsDealtAt c seed index bytes old new written =
    IsLabelFileAt c (offset_of seed) (input_label_of seed) index bytes old new written

abbrev pub HasDealtFault : Netlist → List ℕ → ℕ → List ℕ → ℕ → KeptFault → Type 0
HasDealtFault c seed index bytes room fault =
    HasDealtFaultWith c (offset_of seed) (input_label_of seed) index bytes room fault

-- and of a garbling.
abbrev pub IsDealtFrom : GarblingWith → ℕ → List ℕ → List ℕ → List ℕ → ℕ → Type 0
IsDealtFrom g index bytes old new written =
    IsLabelFileAt g.circuit g.offset (slice_index g.garbling.zero_labels) index bytes old new
    written

abbrev pub HasDealtFaultFrom : GarblingWith → ℕ → List ℕ → ℕ → KeptFault → Type 0
HasDealtFaultFrom g index bytes room fault =
    HasDealtFaultWith g.circuit g.offset (slice_index g.garbling.zero_labels) index bytes room fault
