-- The statistics of a circuit.
use Rattle.std.specs.Prelude.{◌≡◌, ℕ, ◌+◌, ◌≤◌, ◌⊎◌, ◌&&◌, Bool, true, false, not, nat_le, List, max, count_by}
use Rattle.std.specs.List.{list_any}
use Rattle.gc_netlist.specs.declared.gate.Operation.{Operation}
use Rattle.gc_netlist.specs.declared.gate.Operation.TheVariants.{Xor, And, Inv, Eq, Eqw}
use Rattle.gc_netlist.specs.declared.gate.Gate.{Gate}
use Rattle.gc_netlist.specs.Circuit.{Netlist, IsSet, and_count, output_wires, reads}
use Rattle.gc_netlist.specs.Solution.{Solves}
use Rattle.gc_depth.specs.Depth.{and_depth_rule}
use Rattle.gc_file.specs.declared.parts.Version.TheVariants.{One, Two}
use Rattle.gc_file.specs.Honest.{IsFileSize}
use Rattle.gc_audit.specs.declared.figures.Stats.{Stats}

-- whether the operation is XOR,
abbrev pub is_xor : Operation → Bool
is_xor (Xor a b) = true
is_xor _ = false

-- INV,
abbrev pub is_inv : Operation → Bool
is_inv (Inv a) = true
is_inv _ = false

-- EQ
abbrev pub is_eq : Operation → Bool
is_eq (Eq v) = true
is_eq _ = false

-- or EQW
abbrev pub is_eqw : Operation → Bool
is_eqw (Eqw a) = true
is_eqw _ = false

-- How many of the gates have such an operation.
abbrev pub gates_with : (Operation → Bool) → List Gate → ℕ
gates_with is gates = count_by (λ g. is g.operation) gates

-- The depth of the wire that an operation sets, from the depths on the wires: one more than that of the deepest wire
-- that it reads.
abbrev pub depth_of : (ℕ → ℕ) → Operation → ℕ
depth_of depth (Xor a b) = max (depth a) (depth b) + 1
depth_of depth (And a b) = max (depth a) (depth b) + 1
depth_of depth (Inv a) = depth a + 1
depth_of depth (Eq v) = 1
depth_of depth (Eqw a) = depth a + 1

abbrev pub depth_rule : (ℕ → ℕ) → ℕ → Gate → ℕ
depth_rule depth i g = depth_of depth g.operation

-- The depths on the wires are 0 on input wires and meet the rule at each gate, and the number is the greatest on a wire
-- that is set, 0 where no wire is set.
pub record IsGreatest (rule : (ℕ → ℕ) → ℕ → Gate → ℕ) (c : Netlist) (n : ℕ) : Type 0 where
  pub depths : ℕ → ℕ
  pub solve : Solves rule c (λ w. 0) depths
  pub most : (w : ℕ) → IsSet c w → depths w ≤ n
  pub reached : (n ≡ 0) ⊎ ((w : ℕ) × IsSet c w × (depths w ≡ n))

-- whether one of the gates reads wire w
abbrev pub is_read : List Gate → ℕ → Bool
is_read gates w = list_any (λ g. reads g.operation w) gates

-- whether wire w is an output wire: these are the last
abbrev pub is_output : Netlist → ℕ → Bool
is_output c w = nat_le c.wires (w + output_wires c)

-- Whether the gate sets a wire that no gate reads and that is no output wire.
abbrev pub is_unread : Netlist → Gate → Bool
is_unread c g = not (is_read c.gates g.set) && not (is_output c g.set)

-- These are the statistics of the circuit.
pub record IsStats (c : Netlist) (s : Stats) : Type 0 where
  pub xor : s.xor ≡ gates_with is_xor c.gates
  pub and : s.and ≡ and_count c
  pub inv : s.inv ≡ gates_with is_inv c.gates
  pub eq : s.eq ≡ gates_with is_eq c.gates
  pub eqw : s.eqw ≡ gates_with is_eqw c.gates
  pub depth : IsGreatest depth_rule c s.depth
  pub and_depth : IsGreatest and_depth_rule c s.and_depth
  pub unread : s.unread ≡ count_by (is_unread c) c.gates
  pub garbled1 : IsFileSize One c s.garbled1
  pub garbled2 : IsFileSize Two c s.garbled2
