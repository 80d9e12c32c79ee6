-- The AND depth of wires: how many AND gates lie on the longest path to a wire.
use Rattle.std.specs.Prelude.{ℕ, ◌+◌, ◌*◌, max, not}
use Rattle.std.specs.Int.{from_bool}
use Rattle.std.specs.List.Sorted.{IsNonDecreasingBy}
use Rattle.gc_netlist.specs.declared.gate.Operation.{Operation}
use Rattle.gc_netlist.specs.declared.gate.Operation.TheVariants.{Xor, And, Inv, Eq, Eqw}
use Rattle.gc_netlist.specs.declared.gate.Gate.{Gate}
use Rattle.gc_netlist.specs.Circuit.{Netlist, is_and}
use Rattle.gc_netlist.specs.Solution.{Solves, solution}

-- The AND depth of the wire that an operation sets, from those on the wires: that of the deepest wire that it reads,
-- and one more if it is AND.
abbrev pub and_depth_of : (ℕ → ℕ) → Operation → ℕ
and_depth_of depth (Xor a b) = max (depth a) (depth b)
and_depth_of depth (And a b) = max (depth a) (depth b) + 1
and_depth_of depth (Inv a) = depth a
and_depth_of depth (Eq v) = 0
and_depth_of depth (Eqw a) = depth a

abbrev pub and_depth_rule : (ℕ → ℕ) → ℕ → Gate → ℕ
and_depth_rule depth i g = and_depth_of depth g.operation

-- These are AND depths on the wires: 0 on input wires, and the rule holds at every gate.
abbrev pub AreAndDepths : Netlist → (ℕ → ℕ) → Type 0
AreAndDepths c depth = Solves and_depth_rule c (λ _. 0) depth

-- those that computing gate by gate gives
abbrev pub and_depths : Netlist → ℕ → ℕ
and_depths c = solution and_depth_rule c (λ _. 0)

-- The rank of an operation, from the AND depths on the wires: even for AND, and odd for the others. By rank, operations
-- that set wires of one depth follow one another, AND before the others.
abbrev pub rank_of : (ℕ → ℕ) → Operation → ℕ
rank_of depth operation =
    2 * and_depth_of depth operation + from_bool (not (is_and operation))

-- the rank of a gate of the circuit
abbrev pub rank_in : Netlist → Gate → ℕ
rank_in c g = rank_of (and_depths c) g.operation

-- The gates are in order of AND depth, and of one depth the AND gates come first.
pub record IsByDepth (c : Netlist) : Type 0 where
  pub depth : ℕ → ℕ
  pub depths : AreAndDepths c depth
  pub in_order : IsNonDecreasingBy (λ (g : Gate). rank_of depth g.operation) c.gates
