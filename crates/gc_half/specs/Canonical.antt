-- The garbling of a circuit under a seed, as functions of both. `IsGarbled` says what it is; that these functions
-- meet it, and that nothing else does, is proved of them (`law_garblings`). Evaluation likewise: `IsEvaluation` says
-- what it is.
use Rattle.std.specs.Prelude.{ℕ, zero, suc, List, [], ◌∷◌, ◌++◌, length, map, slice_get, slice_index, Option, Some, None, nat_lt, if◌then◌else◌}
use Rattle.std.specs.List.{range_with_len}
use Rattle.gc_netlist.specs.declared.gate.Operation.{Operation}
use Rattle.gc_netlist.specs.declared.gate.Gate.{Gate}
use Rattle.gc_netlist.specs.Circuit.{Netlist, input_wires, output_wires, and_number}
use Rattle.gc_netlist.specs.Solution.{solution}
use Rattle.gc_label.specs.Seed.{offset_of, input_label_of}
use Rattle.gc_half.specs.declared.garbling.RowPair.{RowPair}
use Rattle.gc_half.specs.Hash.{hash}
use Rattle.gc_half.specs.OneGate.{first_read, second_read, gate_rows}
use Rattle.gc_half.specs.Garbling.{zero_rule, GarblingParts}
use Rattle.gc_half.specs.Evaluation.{active_rule}

-- The zero labels of the input wires, and 0 on every other wire.
abbrev pub input_zero : Netlist → List ℕ → ℕ → ℕ
input_zero c seed w = if nat_lt w (input_wires c) then input_label_of seed w else 0

-- The zero label of each wire, 0 where the wire is not set.
unfoldable pub zero_label_of : Netlist → List ℕ → ℕ → ℕ
zero_label_of c seed = solution (zero_rule hash (offset_of seed) c) c (input_zero c seed)

-- a row pair of zeros, which stands for one that isn't there
abbrev pub no_rows : RowPair
no_rows = record { generator = 0; evaluator = 0 }

-- the row pairs, with one more where there is one
abbrev pub with_row_pair : List RowPair → Option RowPair → List RowPair
with_row_pair rows None = rows
with_row_pair rows (Some pair) = rows ++ pair ∷ []

module _ (hash : ℕ → ℕ → ℕ) (r : ℕ) where
  -- the row pairs, with that of one more operation
  abbrev pub with_operation : (ℕ → ℕ) → ℕ → List RowPair → Operation → List RowPair
  with_operation zero_label k rows operation =
      with_row_pair rows (gate_rows hash r k operation (first_read zero_label operation)
      (second_read zero_label operation))

  abbrev pub with_gate : (ℕ → ℕ) → ℕ → List RowPair → Option Gate → List RowPair
  with_gate zero_label k rows None = rows
  with_gate zero_label k rows (Some g) = with_operation zero_label k rows g.operation

  -- the row pairs of the AND gates among the first n gates, in file order
  unfoldable pub rows_after : Netlist → (ℕ → ℕ) → ℕ → List RowPair
  rows_after c zero_label zero = []
  rows_after c zero_label (suc n) =
      with_gate zero_label (and_number c n) (rows_after c zero_label n) (slice_get c.gates n)

-- The row pair of each AND gate, in file order.
unfoldable pub row_pairs_of : Netlist → List ℕ → List RowPair
row_pairs_of c seed = rows_after hash (offset_of seed) c (zero_label_of c seed) (length c.gates)

-- The garbling, whole.
abbrev pub garbling_of : Netlist → List ℕ → GarblingParts
garbling_of c seed = record {
  zero_labels = map (zero_label_of c seed) (range_with_len 0 c.wires);
  rows = row_pairs_of c seed;
  outputs = output_wires c;
}

-- The active label of each wire in an evaluation of these rows on these labels of the input wires. All evaluations
-- agree on the wires that are set.
unfoldable pub active_label_of : Netlist → List RowPair → List ℕ → ℕ → ℕ
active_label_of c rows inputs = solution (active_rule hash c rows) c (slice_index inputs)
