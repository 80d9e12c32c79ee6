-- Which row pair of a file is the first that differs from a garbling's.
use Rattle.std.specs.Prelude.{◌≡◌, ◌≢◌, ℕ, IsTrue, List, slice_get, Some}
use Rattle.gc_netlist.specs.declared.gate.Gate.{Gate}
use Rattle.gc_netlist.specs.Circuit.{Netlist, is_and, and_number}
use Rattle.gc_half.specs.declared.garbling.RowPair.{RowPair}
use Rattle.gc_half.specs.Evaluation.{row_at}
use Rattle.gc_audit.specs.declared.rows.DifferingRows.{DifferingRows}
use Rattle.gc_audit.specs.declared.rows.DifferingRows.TheVariants.{Generator, Evaluator, Both}
use Rattle.gc_audit.specs.declared.rows.RowDifference.{RowDifference}
use Rattle.gc_audit.specs.Difference.{DifferFirstAt}

-- These rows of two pairs differ, and no others.
abbrev pub DifferIn : RowPair → RowPair → DifferingRows → Type 0
DifferIn p q Generator = (p.generator ≢ q.generator) × (p.evaluator ≡ q.evaluator)
DifferIn p q Evaluator = (p.generator ≡ q.generator) × (p.evaluator ≢ q.evaluator)
DifferIn p q Both = (p.generator ≢ q.generator) × (p.evaluator ≢ q.evaluator)

-- Gate i is the AND gate with this AND number, and sets wire w.
pub record IsAndGate (c : Netlist) (number i w : ℕ) : Type 0 where
  pub gate : Gate
  pub at : slice_get c.gates i ≡ Some gate
  pub and : IsTrue (is_and gate.operation)
  pub counts : and_number c i ≡ number
  pub wire : gate.set ≡ w

-- The first AND gate whose row pair in the file is not the garbling's: its number, its place in the file, the wire that
-- it sets, and which of the two rows differ.
pub record IsRowDifference (c : Netlist) (filed garbled : List RowPair)
    (d : RowDifference) : Type 0 where
  pub first : DifferFirstAt filed garbled d.number
  pub gate : IsAndGate c d.number d.gate d.wire
  pub rows : DifferIn (row_at filed d.number) (row_at garbled d.number) d.rows
