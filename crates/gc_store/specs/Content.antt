-- What a store holds: a circuit, a seed, and how far each gate is.
use Rattle.std.specs.Prelude.{◌≡◌, ◌≢◌, ℕ, ◌*◌, ◌<◌, ◌⊎◌, Bool, true, false, List, length, Option, Some, None, slice_get, count_by, replicate}
use Rattle.gc_netlist.specs.declared.gate.Gate.{Gate}
use Rattle.gc_netlist.specs.Circuit.{Netlist, input_wires, EachRead, IsSetBy, IsLawful}
use Rattle.gc_half.specs.declared.garbling.RowPair.{RowPair}
use Rattle.gc_half.specs.Canonical.{zero_label_of}
use Rattle.gc_store.specs.Task.{task_of, sealed_rows}

-- How far a gate is: free, claimed, or finished with the zero label of the wire that it sets and its row pair, where it
-- is AND.
pub data State : Type 0 where
  Free : State
  Claimed : State
  Finished : ℕ → Option RowPair → State

-- The content of a store: the circuit, the seed, the state of each gate, and how many rows there are.
pub record Content : Type 0 where
  pub circuit : Netlist
  pub seed : List ℕ
  pub states : List State
  pub rows : ℕ

-- whether a state is claimed,
abbrev pub is_claimed : State → Bool
is_claimed Free = false
is_claimed Claimed = true
is_claimed (Finished label rows) = false

-- finished,
abbrev pub is_finished : State → Bool
is_finished Free = false
is_finished Claimed = false
is_finished (Finished label rows) = true

-- or finished with rows, which is the state of a finished AND gate
abbrev pub has_rows : State → Bool
has_rows Free = false
has_rows Claimed = false
has_rows (Finished label None) = false
has_rows (Finished label (Some rows)) = true

-- Gate i is claimed.
abbrev pub IsClaimed : Content → ℕ → Type 0
IsClaimed s i = slice_get s.states i ≡ Some Claimed

-- Gate i is finished.
pub record IsFinished (s : Content) (i : ℕ) : Type 0 where
  pub label : ℕ
  pub rows : Option RowPair
  pub at : slice_get s.states i ≡ Some (Finished label rows)

-- The label of wire w is known: w is an input wire, or a finished gate sets it.
abbrev pub IsKnown : Content → ℕ → Type 0
IsKnown s w = (w < input_wires s.circuit) ⊎ ((i : ℕ) × IsSetBy s.circuit w i × IsFinished s i)

-- Gate i is ready: it is free, and each wire that it reads is known.
pub record IsReady (s : Content) (i : ℕ) : Type 0 where
  pub gate : Gate
  pub at : slice_get s.circuit.gates i ≡ Some gate
  pub free : slice_get s.states i ≡ Some Free
  pub reads : EachRead (IsKnown s) gate.operation

-- Every gate is finished.
abbrev pub AllFinished : Content → Type 0
AllFinished s = (i : ℕ) → i < length s.circuit.gates → IsFinished s i

-- What holds of the content of every store.
pub record IsLawfulContent (s : Content) : Type 0 where
  pub circuit : IsLawful s.circuit
  -- Each gate has a state.
  pub states : length s.states ≡ length s.circuit.gates
  -- A finished gate has the zero label and the rows of the half-gate garbling of that gate under the seed.
  pub finished : (i : ℕ) (g : Gate) (label : ℕ) (rows : Option RowPair)
      → slice_get s.circuit.gates i ≡ Some g
      → slice_get s.states i ≡ Some (Finished label rows)
      → (label ≡ zero_label_of s.circuit s.seed g.set)
      × (rows ≡ sealed_rows (task_of s.circuit s.seed i g))
  -- Each wire that a claimed or finished gate reads is known.
  pub reads : (i : ℕ) (g : Gate) (state : State) → slice_get s.circuit.gates i ≡ Some g
      → slice_get s.states i ≡ Some state → state ≢ Free → EachRead (IsKnown s) g.operation
  -- There are two rows for each finished AND gate.
  pub rows : s.rows ≡ 2 * count_by has_rows s.states

-- The content of a store that was opened for a circuit and a seed: every gate is free.
abbrev pub opened : Netlist → List ℕ → Content
opened c seed = record {
  circuit = c;
  seed = seed;
  states = replicate (length c.gates) Free;
  rows = 0;
}
