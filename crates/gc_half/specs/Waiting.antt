-- AND gates that wait to be made together.
use Rattle.std.specs.Prelude.{◌≢◌, ℕ, ◌++◌, List, [], ◌∷◌, map, take, slice_set, Option, Some, None}
use Rattle.gc_half.specs.declared.waiting.WaitingGate.{WaitingGate}
use Rattle.gc_half.specs.declared.waiting.WaitingGates.{WaitingGates}
use Rattle.gc_half.specs.declared.half_gate.AndGate.{AndGate}
use Rattle.gc_half.specs.declared.half_gate.AndStep.{AndStep}
use Rattle.gc_half.specs.declared.garbling.RowPair.{RowPair}
use Rattle.gc_half.specs.Hash.{hash, numbered_from}
use Rattle.gc_half.specs.HalfGate.{and_zero, and_active}
use Rattle.gc_half.specs.OneGate.{row_pair}

abbrev pub list_of : {A : Type 0} → Option A → Option A → Option A → List A
list_of None second third = []
list_of (Some a) None third = a ∷ []
list_of (Some a) (Some b) None = a ∷ b ∷ []
list_of (Some a) (Some b) (Some c) = a ∷ b ∷ c ∷ []

-- The gates that wait, in order: those in the places before an empty one.
abbrev pub gates_in : {T : Type 0} → WaitingGates T → List (WaitingGate T)
gates_in waiting = list_of waiting.first waiting.second waiting.third

-- P holds of each wire that one of them sets.
abbrev pub EachSets : {T : Type 0} → (ℕ → Type 0) → List (WaitingGate T) → Type 0
EachSets P [] = Unit {0}
EachSets P (waits ∷ others) = P waits.set × EachSets P others

-- None of them sets this wire.
abbrev pub NoneSets : {T : Type 0} → ℕ → List (WaitingGate T) → Type 0
NoneSets wire = EachSets (λ set. wire ≢ set)

-- The labels of the wires once the gates are made, where making one gives the wire that it sets this label.
abbrev pub with_waiting : {T : Type 0} → (T → ℕ) → List ℕ → List (WaitingGate T) → List ℕ
with_waiting label labels [] = labels
with_waiting label labels (waits ∷ others) =
    with_waiting label (slice_set labels waits.set (label waits.gate)) others

module _ (hash : ℕ → ℕ → ℕ) where
  -- The zero label of the wire that an AND gate sets, and its row pair.
  abbrev pub zero_label_of_gate : AndGate → ℕ
  zero_label_of_gate g = and_zero hash g.k g.offset g.a g.b

  abbrev pub row_pair_of_gate : AndGate → RowPair
  row_pair_of_gate g = row_pair hash g.offset g.k g.a g.b

  -- The active label of the wire that an AND gate sets.
  abbrev pub active_label_by_step : AndStep → ℕ
  active_label_by_step s = and_active hash s.k s.rows.generator s.rows.evaluator s.a s.b

-- The same, where AND gates are numbered from 0 on.
abbrev pub active_label_of_step : AndStep → ℕ
active_label_of_step s = active_label_by_step hash s

-- A circuit of which a piece is garbled gate after gate: the offset, the number of the piece's first AND gate, the
-- labels of the circuit's wires, as if no gate waited, how many of the piece's row pairs are in their places, and the
-- gates that wait.
pub record ZeroTableParts : Type 0 where
  pub offset : ℕ
  pub first : ℕ
  pub labels : List ℕ
  pub made : ℕ
  pub waiting : List (WaitingGate AndGate)

-- The piece's row pairs, as if no gate waited: those in the first of these places, and those of the gates that wait.
abbrev pub rows_made : ZeroTableParts → List RowPair → List RowPair
rows_made t places =
    take t.made places
    ++ map (λ waits. row_pair_of_gate (numbered_from t.first hash) waits.gate) t.waiting

-- A circuit that is evaluated gate after gate: the labels of its wires, as if no gate waited, the gates that wait,
-- and the number of the first AND gate.
pub record ActiveTableParts : Type 0 where
  pub first : ℕ
  pub labels : List ℕ
  pub waiting : List (WaitingGate AndStep)
