-- Labels and row pairs as bytes, and what is made of them.
use Rattle.std.specs.Prelude.{◌≡◌, ◌≢◌, ◌⊎◌, ℕ, ◌+◌, ◌-◌, ◌*◌, ◌^◌, ◌<◌, ◌≤◌, Bool, false, IsTrue, List, length, map, flat_map, take, drop, sum, slice_get, slice_index, Some, All}
use Rattle.gc_netlist.specs.Circuit.{Netlist, and_count, input_wires, output_wires}
use Rattle.gc_netlist.specs.Spelling.{bit_number}
use Rattle.gc_label.specs.Label.{◌⊕◌, colour, bytes_of_label, label_of_bytes}
use Rattle.gc_half.specs.declared.garbling.RowPair.{RowPair}
use Rattle.gc_half.specs.Garbling.{IsGarbledFrom}
use Rattle.gc_half.specs.Evaluation.{decode}
use Rattle.gc_half.specs.Joined.{AreOutputLabels}
use Rattle.gc_file.specs.GarbledFile.{IsLabel, IsRowPair, row_bytes}
use Rattle.gc_file.specs.LabelFile.{label_file}
use Rattle.gc_job.specs.Job.{JobParts}
use Rattle.gc_job.specs.declared.fault.BindFault.TheVariants as bind
use Rattle.gc_job.specs.declared.fault.EvalFault.TheVariants as eval
use Rattle.gc_kept.specs.declared.fault.KeptFault.{KeptFault}
use Rattle.gc_kept.specs.declared.fault.KeptFault.TheVariants.{BadDigit, Binding, Circuit, Evaluation, BadArgument, SmallBuffer, NeedsRoom, Garbling, Memory, WrongSize}
use Rattle.gc_netlist.specs.declared.fault.ReadFault.TheVariants as read
use Rattle.gc_kept.specs.Bits.{HasBadDigit}
use Rattle.gc_kept.specs.Circuit.{CircuitWith}
use Rattle.gc_kept.specs.Files.{IsFileAt}
use Rattle.gc_kept.specs.Garbling.{GarblingWith}

-- The bytes are these labels, 16 bytes each, one after another,
pub record AreLabels (bytes labels : List ℕ) : Type 0 where
  pub spelled : bytes ≡ flat_map bytes_of_label labels
  pub each : All IsLabel labels

-- or these row pairs, 32 bytes each: the generator's row, and then the evaluator's.
pub record AreRows (bytes : List ℕ) (rows : List RowPair) : Type 0 where
  pub spelled : bytes ≡ flat_map row_bytes rows
  pub each : All IsRowPair rows

-- The garbling of the circuit from the offset and the zero labels of the input wires that these bytes are, its AND
-- gates numbered from `first` on.
pub record IsFromLabels (c : CircuitWith) (offset zero_labels : List ℕ) (first : ℕ)
    (g : GarblingWith) : Type 0 where
  pub circuit : g.circuit ≡ c.netlist
  pub digest : g.has_digest ≡ c.has_digest
  pub offset_is : g.offset ≡ label_of_bytes offset
  pub odd : IsTrue (colour g.offset)
  pub first_is : g.first ≡ first
  pub room : first + and_count c.netlist ≤ 2 ^ 62
  pub labels : List ℕ
  pub labels_are : AreLabels zero_labels labels
  pub count : length labels ≡ input_wires c.netlist
  pub garbled : IsGarbledFrom g.offset (slice_index labels) first c.netlist g.garbling

-- The fault of such a garbling: there are other labels than one for each input wire, then the offset has the colour 0,
-- or an AND number is too large. Memory may be missing instead.
abbrev pub HasFromLabelsFault : Netlist → List ℕ → List ℕ → ℕ → KeptFault → Type 0
HasFromLabelsFault c offset zero_labels first WrongSize = length zero_labels ≢ 16 * input_wires c
HasFromLabelsFault c offset zero_labels first BadArgument =
    (length zero_labels ≡ 16 * input_wires c)
    × ((colour (label_of_bytes offset) ≡ false) ⊎ (¬ (first + and_count c ≤ 2 ^ 62)))
HasFromLabelsFault c offset zero_labels first Garbling = Unit {0}
HasFromLabelsFault c offset zero_labels first Memory = Unit {0}
HasFromLabelsFault c offset zero_labels first _ = ⊥

-- The first wire of an output value.
abbrev pub first_output_of : Netlist → ℕ → ℕ
first_output_of c index = c.wires - output_wires c + sum (take index c.output_widths)

-- The zero labels of `count` wires of a garbling, from wire `from` on.
abbrev pub zero_labels_from : GarblingWith → ℕ → ℕ → List ℕ
zero_labels_from g from count = take count (drop from g.garbling.zero_labels)

-- Two buffers begin with both labels of wires with these zero labels: the one with the zero labels, and the other with
-- their sums with the offset.
pub record AreBoth (offset : ℕ) (labels zero_old zero_new one_old one_new : List ℕ) : Type 0 where
  pub zero : IsFileAt (flat_map bytes_of_label labels) zero_old zero_new
  pub one : IsFileAt (flat_map bytes_of_label (map (λ label. label ⊕ offset) labels))
      one_old one_new

-- They begin with both labels of each wire of a value, which has one of these widths and begins at this wire.
pub record AreValueLabels (g : GarblingWith) (widths : List ℕ) (index from : ℕ)
    (zero_old zero_new one_old one_new : List ℕ) : Type 0 where
  pub width : ℕ
  pub at : slice_get widths index ≡ Some width
  pub both : AreBoth g.offset (zero_labels_from g from width) zero_old zero_new one_old one_new

-- The fault of such labels: there is no such value, or a buffer has too little room.
abbrev pub HasValueLabelsFault : List ℕ → ℕ → ℕ → ℕ → KeptFault → Type 0
HasValueLabelsFault widths index zero_room one_room (Binding fault) =
    (fault ≡ bind.NoSuchValue) × (length widths ≤ index)
HasValueLabelsFault widths index zero_room one_room SmallBuffer =
    (width : ℕ) × (slice_get widths index ≡ Some width)
    × ((zero_room < 16 * width) ⊎ (one_room < 16 * width))
HasValueLabelsFault widths index zero_room one_room _ = ⊥

-- The bytes are rows and labels of the input wires, and the buffer begins with the active labels of the output wires of
-- an evaluation of them, AND gates numbered from `first` on.
pub record AreEvaluatedTo (c : Netlist) (rows : List ℕ) (first : ℕ) (labels old new : List ℕ)
    : Type 0 where
  pub room : first + and_count c ≤ 2 ^ 62
  pub row_pairs : List RowPair
  pub rows_are : AreRows rows row_pairs
  pub row_count : length row_pairs ≡ and_count c
  pub inputs : List ℕ
  pub inputs_are : AreLabels labels inputs
  pub input_count : length inputs ≡ input_wires c
  pub outputs : List ℕ
  pub evaluated : AreOutputLabels first c row_pairs inputs outputs
  pub buffer : IsFileAt (flat_map bytes_of_label outputs) old new

-- The fault of such an evaluation: a number of bytes is wrong, then an AND number, then the buffer has too little room.
-- Memory may be missing instead.
abbrev pub HasLabelsEvalFault : Netlist → List ℕ → ℕ → List ℕ → ℕ → KeptFault → Type 0
HasLabelsEvalFault c rows first labels room WrongSize =
    (length rows ≢ 32 * and_count c) ⊎ (length labels ≢ 16 * input_wires c)
HasLabelsEvalFault c rows first labels room BadArgument =
    (length rows ≡ 32 * and_count c) × (length labels ≡ 16 * input_wires c)
    × (¬ (first + and_count c ≤ 2 ^ 62))
HasLabelsEvalFault c rows first labels room SmallBuffer =
    (length rows ≡ 32 * and_count c) × (length labels ≡ 16 * input_wires c)
    × (first + and_count c ≤ 2 ^ 62) × (room < 16 * output_wires c)
HasLabelsEvalFault c rows first labels room (Evaluation fault) = fault ≡ eval.Memory
HasLabelsEvalFault c rows first labels room _ = ⊥

-- The buffer begins with the active labels of a job's output wires.
pub record AreJobLabels (job : JobParts) (old new : List ℕ) : Type 0 where
  pub outputs : List ℕ
  pub evaluated : AreOutputLabels 0 job.circuit job.rows job.inputs outputs
  pub buffer : IsFileAt (flat_map bytes_of_label outputs) old new

-- The fault of such labels: the buffer has too little room. Memory may be missing instead.
abbrev pub HasJobLabelsFault : JobParts → ℕ → KeptFault → Type 0
HasJobLabelsFault job room SmallBuffer = room < 16 * output_wires job.circuit
HasJobLabelsFault job room (Evaluation fault) =
    (fault ≡ eval.Memory) × (16 * output_wires job.circuit ≤ room)
HasJobLabelsFault job room _ = ⊥

-- The bytes are labels and a decode bit for each, and the buffer begins with the bits that the labels decode to.
pub record AreDecoded (labels decode_bits old new : List ℕ) : Type 0 where
  pub active : List ℕ
  pub labels_are : AreLabels labels active
  pub bits : List Bool
  pub decode_bits_are : decode_bits ≡ map bit_number bits
  pub count : length bits ≡ length active
  pub buffer : IsFileAt (map bit_number (decode bits active)) old new

-- The fault of decoding: other labels than one for each decode bit, then a buffer with too little room, then a bad
-- digit. Memory may be missing instead.
abbrev pub HasDecodeFault : List ℕ → List ℕ → ℕ → KeptFault → Type 0
HasDecodeFault labels decode_bits room WrongSize = length labels ≢ 16 * length decode_bits
HasDecodeFault labels decode_bits room SmallBuffer =
    (length labels ≡ 16 * length decode_bits) × (room < length decode_bits)
HasDecodeFault labels decode_bits room BadDigit =
    (length labels ≡ 16 * length decode_bits) × (length decode_bits ≤ room)
    × HasBadDigit decode_bits
HasDecodeFault labels decode_bits room (Circuit fault) = fault ≡ read.Memory
HasDecodeFault labels decode_bits room (Evaluation fault) = fault ≡ eval.Memory
HasDecodeFault labels decode_bits room _ = ⊥

-- The buffer begins with the label file of an input value that has these labels, and this is its length.
pub record IsReceivedAt (c : Netlist) (index : ℕ) (bytes old new : List ℕ) (written : ℕ)
    : Type 0 where
  pub labels : List ℕ
  pub labels_are : AreLabels bytes labels
  pub width : slice_get c.input_widths index ≡ Some (length labels)
  pub file : IsFileAt (label_file (record { index = index; labels = labels })) old new
  pub count : written ≡ 16 + 16 * length labels

-- The fault of such a file: no such value, then other labels than one for each of its wires, then a buffer with too
-- little room. Memory may be missing instead.
abbrev pub HasReceivedFault : Netlist → ℕ → List ℕ → ℕ → KeptFault → Type 0
HasReceivedFault c index bytes room (Binding fault) =
    (fault ≡ bind.NoSuchValue) × (length c.input_widths ≤ index)
HasReceivedFault c index bytes room WrongSize =
    (width : ℕ) × (slice_get c.input_widths index ≡ Some width) × (length bytes ≢ 16 * width)
HasReceivedFault c index bytes room (NeedsRoom size) =
    (width : ℕ) × (slice_get c.input_widths index ≡ Some width) × (length bytes ≡ 16 * width)
    × (room < 16 + 16 * width) × (size ≡ 16 + 16 * width)
HasReceivedFault c index bytes room Memory = Unit {0}
HasReceivedFault c index bytes room _ = ⊥
