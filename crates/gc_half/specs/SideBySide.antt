-- Garblings and evaluations of one circuit that are made side by side, gate after gate.
use Rattle.std.specs.Prelude.{◌≡◌, ℕ, ◌<◌, ◌≤◌, List, IsTrue, length, slice_index, slice_set}
use Rattle.gc_netlist.specs.declared.gate.Gate.{Gate}
use Rattle.gc_netlist.specs.Solution.{put}
use Rattle.gc_half.specs.OneGate.{first_read, second_read, gate_rows}
use Rattle.gc_half.specs.Garbling.{zero_of}
use Rattle.gc_half.specs.Canonical.{with_row_pair}
use Rattle.gc_half.specs.declared.garbling.RowPair.{RowPair}
use Rattle.gc_half.specs.Evaluation.{active_of, row_at}
use Rattle.gc_half.specs.declared.four.Four.{Four}
use Rattle.gc_netlist.specs.Circuit.{EachRead, is_and}

-- P holds of each of four,
abbrev pub OfEach : {T : Type 0} → (T → Type 0) → Four T → Type 0
OfEach P four = P four.a × P four.b × P four.c × P four.d

-- and R of each of four and the one in the same place of others.
abbrev pub OfBoth : {S T : Type 0} → (S → T → Type 0) → Four S → Four T → Type 0
OfBoth R four others =
    R four.a others.a × R four.b others.b × R four.c others.c × R four.d others.d

-- One gate more is garbled, with the offset r: its zero label is put where it belongs, in a table of at most `wires`
-- labels, and its row pair, if it has one, is added.
pub record IsOneGateMore (hash : ℕ → ℕ → ℕ) (r wires : ℕ) (g : Gate) (labels : List ℕ)
    (rows : List RowPair) (new : List ℕ) (new_rows : List RowPair) : Type 0 where
  pub label : (w : ℕ) → slice_index new w ≡ put (slice_index labels) g.set
      (zero_of hash r (slice_index labels) (length rows) g.operation) w
  pub there : g.set < length new
  pub kept : length labels ≤ length new
  pub few : length new ≤ wires
  pub row_pairs : new_rows ≡ with_row_pair rows (gate_rows hash r (length rows) g.operation
      (first_read (slice_index labels) g.operation)
      (second_read (slice_index labels) g.operation))

-- One gate more can be evaluated: there are the labels that it reads, a place for its own, and its row pair.
pub record CanStep (k : ℕ) (g : Gate) (rows : List RowPair) (labels : List ℕ) : Type 0 where
  pub row : IsTrue (is_and g.operation) → k < length rows
  pub read : EachRead (λ w. w < length labels) g.operation
  pub place : g.set < length labels

-- One gate more is evaluated, and the rows stay.
pub record IsStep (hash : ℕ → ℕ → ℕ) (k : ℕ) (g : Gate) (rows : List RowPair) (labels : List ℕ)
    (new_rows : List RowPair) (new : List ℕ) : Type 0 where
  pub kept : new_rows ≡ rows
  pub label : new ≡ slice_set labels g.set
      (active_of hash (slice_index labels) k (row_at rows k) g.operation)
