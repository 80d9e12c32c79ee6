-- What it is to garble a circuit: zero labels on all wires at once that meet an equation at each gate, and a row pair
-- for each AND gate.
use Rattle.std.specs.Prelude.{◌≡◌, ℕ, ◌<◌, ◌-◌, Bool, List, length, map, drop, slice_get, slice_index, Some}
use Rattle.gc_netlist.specs.declared.gate.Operation.{Operation}
use Rattle.gc_netlist.specs.declared.gate.Operation.TheVariants.{And}
use Rattle.gc_netlist.specs.declared.gate.Gate.{Gate}
use Rattle.gc_netlist.specs.Circuit.{Netlist, IsSet, and_number, and_count, output_wires}
use Rattle.gc_netlist.specs.Solution.{Solves}
use Rattle.gc_label.specs.Label.{colour}
use Rattle.gc_label.specs.Seed.{offset_of, input_label_of}
use Rattle.gc_half.specs.declared.garbling.RowPair.{RowPair}
use Rattle.gc_half.specs.Hash.{hash, numbered_from}
use Rattle.gc_half.specs.OneGate.{first_read, second_read, row_pair, gate_zero}

module _ (hash : ℕ → ℕ → ℕ) (r : ℕ) where
  -- The zero label of the wire that an operation sets, from the zero labels on the wires. An AND gate is the k-th.
  abbrev pub zero_of : (ℕ → ℕ) → ℕ → Operation → ℕ
  zero_of zero_label k operation =
      gate_zero hash r k operation (first_read zero_label operation)
      (second_read zero_label operation)

  abbrev pub zero_rule : Netlist → (ℕ → ℕ) → ℕ → Gate → ℕ
  zero_rule c zero_label i g = zero_of zero_label (and_number c i) g.operation

  -- The row pair of the k-th AND gate, which reads the wires a and b.
  abbrev pub rows_of : (ℕ → ℕ) → ℕ → ℕ → ℕ → RowPair
  rows_of zero_label k a b = row_pair hash r k (zero_label a) (zero_label b)

  -- A garbling with the offset r: zero labels on the wires, the given ones on the input wires, that meet each gate's
  -- equation; and as many row pairs as there are AND gates, that of each AND gate at its AND number.
  pub record IsGarbling (c : Netlist) (given zero_label : ℕ → ℕ) (rows : List RowPair)
      : Type 0 where
    pub labels : Solves (zero_rule c) c given zero_label
    pub and_gates : (i : ℕ) (g : Gate) (a b : ℕ) → slice_get c.gates i ≡ Some g
        → g.operation ≡ And a b
        → slice_get rows (and_number c i) ≡ Some (rows_of zero_label (and_number c i) a b)
    pub row_count : length rows ≡ and_count c

-- The parts of a `Garbling`: the zero label of each wire, the row pair of each AND gate in file order, and how many of
-- the wires, the last ones, are output wires.
pub record GarblingParts : Type 0 where
  pub zero_labels : List ℕ
  pub rows : List RowPair
  pub outputs : ℕ

-- The decode bits: the colours of the output wires' zero labels, in order.
abbrev pub decode_bits_of : GarblingParts → List Bool
decode_bits_of g = map colour (drop (length g.zero_labels - g.outputs) g.zero_labels)

-- The parts are the garbling of the circuit with the offset r, these zero labels of the input wires, and AND gates that
-- are numbered from `first` on. A wire that is not set has 16 zero bytes.
pub record IsGarbledFrom (r : ℕ) (given : ℕ → ℕ) (first : ℕ) (c : Netlist) (g : GarblingParts)
    : Type 0 where
  pub garbling : IsGarbling (numbered_from first hash) r c given (slice_index g.zero_labels) g.rows
  pub wires : length g.zero_labels ≡ c.wires
  pub not_set : (w : ℕ) → w < c.wires → ¬ IsSet c w → slice_index g.zero_labels w ≡ 0
  pub outputs : g.outputs ≡ output_wires c

-- The parts are the garbling of the circuit under the seed: that with the seed's offset and zero labels, and AND gates
-- that are numbered from 0 on.
abbrev pub IsGarbled : Netlist → List ℕ → GarblingParts → Type 0
IsGarbled c seed g = IsGarbledFrom (offset_of seed) (input_label_of seed) 0 c g

-- The numbers of wires, AND gates and outputs are the circuit's.
pub record FitsCircuit (c : Netlist) (g : GarblingParts) : Type 0 where
  pub wires : length g.zero_labels ≡ c.wires
  pub and_gates : length g.rows ≡ and_count c
  pub outputs : g.outputs ≡ output_wires c
