-- Circuits, and which of them are lawful (the Bristol Fashion page).
use Rattle.std.specs.Prelude.{◌≡◌, ℕ, ◌<◌, ◌≤◌, ◌+◌, ◌⊎◌, ◌==◌, ◌||◌, Bool, true, false, List, length, sum, take, count_by, slice_get, Option, Some, None}
use Rattle.gc_netlist.specs.declared.limits.TheConstants.{MAX_GATES, MAX_WIRES, MAX_VALUES}
use Rattle.gc_netlist.specs.declared.gate.Operation.{Operation}
use Rattle.gc_netlist.specs.declared.gate.Operation.TheVariants.{Xor, And, Inv, Eq, Eqw}
use Rattle.gc_netlist.specs.declared.gate.Gate.{Gate}

-- A circuit: how many wires, the widths of the input and the output values, and the gates in file order.
pub record Netlist : Type 0 where
  pub wires : ℕ
  pub input_widths : List ℕ
  pub output_widths : List ℕ
  pub gates : List Gate

-- The circuit of these parts.
abbrev pub netlist_of : ℕ → List ℕ → List ℕ → List Gate → Netlist
netlist_of wires inputs outputs gates = record {
  wires = wires;
  input_widths = inputs;
  output_widths = outputs;
  gates = gates;
}

-- The first wires are the input wires,
abbrev pub input_wires : Netlist → ℕ
input_wires c = sum c.input_widths

-- and the last wires are the output wires.
abbrev pub output_wires : Netlist → ℕ
output_wires c = sum c.output_widths

-- P holds of each wire that the operation reads.
abbrev pub EachRead : (ℕ → Type 0) → Operation → Type 0
EachRead P (Xor a b) = P a × P b
EachRead P (And a b) = P a × P b
EachRead P (Inv a) = P a
EachRead P (Eq v) = Unit {0}
EachRead P (Eqw a) = P a

-- the wire that an operation reads first,
abbrev pub first_wire : Operation → Option ℕ
first_wire (Xor a b) = Some a
first_wire (And a b) = Some a
first_wire (Inv a) = Some a
first_wire (Eq v) = None
first_wire (Eqw a) = Some a

-- and the one that it reads second
abbrev pub second_wire : Operation → Option ℕ
second_wire (Xor a b) = Some b
second_wire (And a b) = Some b
second_wire (Inv a) = None
second_wire (Eq v) = None
second_wire (Eqw a) = None

-- whether the operation reads wire w
abbrev pub reads : Operation → ℕ → Bool
reads (Xor a b) w = a == w || b == w
reads (And a b) w = a == w || b == w
reads (Inv a) w = a == w
reads (Eq v) w = false
reads (Eqw a) w = a == w

-- Gate i sets wire w.
pub record IsSetBy (c : Netlist) (w i : ℕ) : Type 0 where
  pub gate : Gate
  pub at : slice_get c.gates i ≡ Some gate
  pub wire : gate.set ≡ w

-- Wire w is an input wire, or one of the first n gates sets it.
abbrev pub IsSetBefore : Netlist → ℕ → ℕ → Type 0
IsSetBefore c n w = (w < input_wires c) ⊎ ((i : ℕ) × (i < n) × IsSetBy c w i)

-- Wire w is set: it is an input wire, or a gate sets it.
abbrev pub IsSet : Netlist → ℕ → Type 0
IsSet c w = IsSetBefore c (length c.gates) w

pub record IsLawful (c : Netlist) : Type 0 where
  -- The limits are kept.
  pub few_gates : length c.gates ≤ MAX_GATES
  pub few_wires : c.wires ≤ MAX_WIRES
  pub few_inputs : length c.input_widths ≤ MAX_VALUES
  pub few_outputs : length c.output_widths ≤ MAX_VALUES
  -- Input and output wires are wires.
  pub inputs_fit : input_wires c ≤ c.wires
  pub outputs_fit : output_wires c ≤ c.wires
  -- A gate reads only input wires and wires that gates before it set.
  pub reads : (i : ℕ) (g : Gate) → slice_get c.gates i ≡ Some g
      → EachRead (IsSetBefore c i) g.operation
  -- It sets a wire that is no input wire and that no gate before it sets.
  pub sets : (i : ℕ) (g : Gate) → slice_get c.gates i ≡ Some g → g.set < c.wires
  pub sets_once : (i : ℕ) (g : Gate) → slice_get c.gates i ≡ Some g → IsSetBefore c i g.set → ⊥
  -- Each output wire is set.
  pub outputs_set : (w : ℕ) → c.wires ≤ w + output_wires c → w < c.wires → IsSet c w

-- whether the operation is AND
abbrev pub is_and : Operation → Bool
is_and (Xor a b) = false
is_and (And a b) = true
is_and (Inv a) = false
is_and (Eq v) = false
is_and (Eqw a) = false

-- The AND number of gate i: how many AND gates come before it in file order.
abbrev pub and_number : Netlist → ℕ → ℕ
and_number c i = count_by (λ g. is_and g.operation) (take i c.gates)

-- How many AND gates there are.
abbrev pub and_count : Netlist → ℕ
and_count c = count_by (λ g. is_and g.operation) c.gates

-- The circuit is lawful, and these are its numbers of input wires, output wires and AND gates.
pub record IsSummary (c : Netlist) (inputs outputs ands : ℕ) : Type 0 where
  pub lawful : IsLawful c
  pub counts_inputs : inputs ≡ input_wires c
  pub counts_outputs : outputs ≡ output_wires c
  pub counts_ands : ands ≡ and_count c
