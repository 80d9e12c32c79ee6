-- What it is to evaluate garbled rows, and how bits are encoded as labels and decoded.
use Rattle.std.specs.Prelude.{◌≡◌, ℕ, Bool, List, map, slice_index, slice_index_or}
use Rattle.std.specs.List.{range_with_len, zip}
use Rattle.gc_netlist.specs.declared.gate.Operation.{Operation}
use Rattle.gc_netlist.specs.declared.gate.Gate.{Gate}
use Rattle.gc_netlist.specs.Circuit.{Netlist, and_number}
use Rattle.gc_netlist.specs.Solution.{Solves, on_outputs}
use Rattle.gc_circuit.specs.Meaning.{xor}
use Rattle.gc_label.specs.Label.{◌⊕◌, colour, times}
use Rattle.gc_half.specs.declared.garbling.RowPair.{RowPair}
use Rattle.gc_half.specs.Hash.{hash, numbered_from}
use Rattle.gc_half.specs.OneGate.{first_read, second_read, gate_active}

-- The row pair at a gate's AND number, or zeros where there is none.
abbrev pub row_at : List RowPair → ℕ → RowPair
row_at rows k = slice_index_or rows k (record { generator = 0; evaluator = 0 })

module _ (hash : ℕ → ℕ → ℕ) where
  -- The active label of the wire that an operation sets, from the active labels on the wires. An AND gate is the k-th
  -- and has this row pair.
  abbrev pub active_of : (ℕ → ℕ) → ℕ → RowPair → Operation → ℕ
  active_of active k row operation =
      gate_active hash k row operation (first_read active operation) (second_read active operation)

  abbrev pub active_rule : Netlist → List RowPair → (ℕ → ℕ) → ℕ → Gate → ℕ
  active_rule c rows active i g =
      active_of active (and_number c i) (row_at rows (and_number c i)) g.operation

  -- An evaluation of the rows: active labels on the wires, the given ones on the input wires, that meet each gate's
  -- equation.
  abbrev pub IsEvaluation : Netlist → List RowPair → (ℕ → ℕ) → (ℕ → ℕ) → Type 0
  IsEvaluation c rows given active = Solves (active_rule c rows) c given active

-- The labels of all wires are active ones: those of an evaluation of the rows on these labels of the input wires, where
-- AND gates are numbered from `first` on.
pub record AreActiveFrom (first : ℕ) (c : Netlist) (rows : List RowPair) (inputs labels : List ℕ)
    : Type 0 where
  pub active : ℕ → ℕ
  pub evaluation : IsEvaluation (numbered_from first hash) c rows (slice_index inputs) active
  pub table : labels ≡ map active (range_with_len 0 c.wires)

-- The same, where they are numbered from 0 on.
abbrev pub AreActive : Netlist → List RowPair → List ℕ → List ℕ → Type 0
AreActive c rows inputs labels = AreActiveFrom 0 c rows inputs labels

-- The label that stands for a bit on a wire with this zero label.
abbrev pub encode : ℕ → ℕ → Bool → ℕ
encode offset zero_label bit = zero_label ⊕ times bit offset

-- The decode bits of the circuit: the colours of the output wires' zero labels, in order.
abbrev pub decode_bits : Netlist → (ℕ → ℕ) → List Bool
decode_bits c zero_label = map colour (on_outputs c zero_label)

-- The output bits: place by place, the decode bit xor the colour of the active label.
abbrev pub decode : List Bool → List ℕ → List Bool
decode bits labels = map (λ (p : Bool × ℕ). xor p.0 (colour p.1)) (zip bits labels)
