-- Where reading gates stops.
use Rattle.std.specs.Prelude.{◌≡◌, ℕ, ◌+◌, ◌<◌, ◌≤◌, ◌⊎◌, Bool, true, false, List, [], length, slice_index_or, Option, Some, None, Ok, Err}
use Rattle.gc_netlist.specs.declared.fault.ReadFault.{ReadFault}
use Rattle.gc_netlist.specs.declared.fault.ReadFault.TheVariants.{OutputUnset, Memory}
use Rattle.gc_netlist.specs.declared.gate.Gate.{Gate}
use Rattle.gc_netlist.specs.Reading.{gate_at, check_gate, is_set, gates_at}
use Rattle.gc_netlist.specs.Met.{gate_left, back_of, wire_at_fault}

-- The next gate isn't read, or it is read and refused.
abbrev pub GateStops : (wires : ℕ) (set : ℕ → Bool) (old new : List (List ℕ)) → ReadFault
    → (back : ℕ) → (wire : Option ℕ) → Type 0
GateStops wires set old new e back wire =
    ((gate_at old ≡ Err e) × (new ≡ gate_left old) × (back ≡ back_of e) × (wire ≡ None))
    ⊎ ((g : Gate) × (gate_at old ≡ Ok (g, new)) × (check_gate wires set g ≡ Err e)
    × (let at = wire_at_fault wires set g.set g.operation in (back ≡ at.1) × (wire ≡ Some at.0)))

-- The first gates are read and accepted, and the next one is not. It is one of this number of gates.
pub record GatesStop (wires inputs count : ℕ) (old new : List (List ℕ)) (e : ReadFault) (back : ℕ)
    (gate wire : Option ℕ) : Type 0 where
  pub gates : List Gate
  pub at : List (List ℕ)
  pub so_far : gates_at wires inputs (length gates) [] old ≡ Ok (gates, at)
  pub more : length gates < count
  pub in_gate : gate ≡ Some (length gates)
  pub stops : GateStops wires (is_set inputs gates) at new e back wire

-- Of the last wires, which are the outputs, the first that isn't set is this.
pub record IsUnset (set : List Bool) (outputs : ℕ) (e : ReadFault) (back : ℕ) (gate wire : Option ℕ)
    : Type 0 where
  pub fault : e ≡ OutputUnset
  pub at_cursor : back ≡ 0
  pub in_gate : gate ≡ None
  pub first : ℕ
  pub at_wire : wire ≡ Some first
  pub last : length set ≤ first + outputs
  pub within : first < length set
  pub free : slice_index_or set first false ≡ false
  pub lower : (v : ℕ) → length set ≤ v + outputs → v < first → slice_index_or set v false ≡ true

-- An allocation was refused. This fault is about no gate and no wire.
abbrev pub IsRefused : ReadFault → (gate wire : Option ℕ) → Type 0
IsRefused e gate wire = (e ≡ Memory) × (gate ≡ None) × (wire ≡ None)
