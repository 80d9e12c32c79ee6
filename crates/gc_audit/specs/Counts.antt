-- How many gates have each operation, together.
use Rattle.std.specs.Prelude.{◌≡◌, ◌<◌, ℕ, Bool, List, if◌then◌else◌}
use Rattle.gc_netlist.specs.declared.gate.Gate.{Gate}
use Rattle.gc_netlist.specs.Circuit.{is_and}
use Rattle.gc_audit.specs.declared.counts.Counts.{Counts}
use Rattle.gc_audit.specs.Stats.{gates_with, is_xor, is_inv, is_eq, is_eqw}

-- These are the counts of the gates.
pub record AreCounts (gates : List Gate) (n : Counts) : Type 0 where
  pub xor : n.xor ≡ gates_with is_xor gates
  pub and : n.and ≡ gates_with is_and gates
  pub inv : n.inv ≡ gates_with is_inv gates
  pub eq : n.eq ≡ gates_with is_eq gates
  pub eqw : n.eqw ≡ gates_with is_eqw gates

-- How much one more operation adds to the count of its kind, and to the others.
abbrev pub one_if : Bool → ℕ
one_if counts = if counts then 1 else 0

-- Each count is below m.
abbrev pub AreCountsBelow : ℕ → Counts → Type 0
AreCountsBelow m n = (n.xor < m) × (n.and < m) × (n.inv < m) × (n.eq < m) × (n.eqw < m)
