-- What garbling and what evaluating one gate give, from the labels of the wires that it reads ("Two Halves Make a
-- Whole"; free XOR). XOR, INV, EQ and EQW gates have no rows.
use Rattle.std.specs.Prelude.{ℕ, Option, Some, None}
use Rattle.gc_netlist.specs.declared.gate.Operation.{Operation}
use Rattle.gc_netlist.specs.declared.gate.Operation.TheVariants.{Xor, And, Inv, Eq, Eqw}
use Rattle.gc_label.specs.Label.{◌⊕◌, times}
use Rattle.gc_half.specs.declared.garbling.RowPair.{RowPair}
use Rattle.gc_half.specs.HalfGate.{and_zero, and_active, generator_row, evaluator_row}

-- The label of the wire that an operation reads first, from the labels on the wires; 0 where it reads none.
abbrev pub first_read : (ℕ → ℕ) → Operation → ℕ
first_read label (Xor a b) = label a
first_read label (And a b) = label a
first_read label (Inv a) = label a
first_read label (Eq v) = 0
first_read label (Eqw a) = label a

-- The label of the wire that it reads second, 0 where it reads no second.
abbrev pub second_read : (ℕ → ℕ) → Operation → ℕ
second_read label (Xor a b) = label b
second_read label (And a b) = label b
second_read label (Inv a) = 0
second_read label (Eq v) = 0
second_read label (Eqw a) = 0

-- An AND gate is the k-th in file order, counted from 0.
module _ (hash : ℕ → ℕ → ℕ) where
  -- The row pair of an AND gate, from the offset r and the zero labels a and b of the wires read.
  abbrev pub row_pair : ℕ → ℕ → ℕ → ℕ → RowPair
  row_pair r k a b = record {
    generator = generator_row hash k r a b;
    evaluator = evaluator_row hash k r a b;
  }

  -- Garbling, from the offset r and the zero labels a and b of the wires read: the zero label of the wire set,
  abbrev pub gate_zero : ℕ → ℕ → Operation → ℕ → ℕ → ℕ
  gate_zero r k (Xor u v) a b = a ⊕ b
  gate_zero r k (And u v) a b = and_zero hash k r a b
  gate_zero r k (Inv u) a b = a ⊕ r
  gate_zero r k (Eq bit) a b = times bit r
  gate_zero r k (Eqw u) a b = a

  -- and the row pair, which AND alone has.
  abbrev pub gate_rows : ℕ → ℕ → Operation → ℕ → ℕ → Option RowPair
  gate_rows r k (Xor u v) a b = None
  gate_rows r k (And u v) a b = Some (row_pair r k a b)
  gate_rows r k (Inv u) a b = None
  gate_rows r k (Eq bit) a b = None
  gate_rows r k (Eqw u) a b = None

  -- Evaluation, from the row pair of an AND gate and the active labels a and b of the wires read: the active label of
  -- the wire set.
  abbrev pub gate_active : ℕ → RowPair → Operation → ℕ → ℕ → ℕ
  gate_active k row (Xor u v) a b = a ⊕ b
  gate_active k row (And u v) a b = and_active hash k row.generator row.evaluator a b
  gate_active k row (Inv u) a b = a
  gate_active k row (Eq bit) a b = 0
  gate_active k row (Eqw u) a b = a
