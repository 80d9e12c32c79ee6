-- Circuits that have the same gates in another order.
use Rattle.std.specs.Prelude.{◌≡◌, ℕ, ◌<◌, ◌↔◌, Bool, List}
use Rattle.std.specs.List.{All}
use Rattle.std.specs.List.Sorted.{IsPermutation}
use Rattle.gc_netlist.specs.Circuit.{Netlist, and_count}
use Rattle.gc_circuit.specs.Meaning.{IsAssignment, AreOutputs}
use Rattle.gc_depth.specs.Depth.{rank_in}
use Rattle.gc_depth.specs.Ranks.{by_rank}

-- The circuits have the same wires and widths, and the same gates, each as often.
pub record IsReordering (c d : Netlist) : Type 0 where
  pub wires : d.wires ≡ c.wires
  pub input_widths : d.input_widths ≡ c.input_widths
  pub output_widths : d.output_widths ≡ c.output_widths
  pub gates : IsPermutation c.gates d.gates

-- The circuits compute the same, at the same cost.
pub record ComputesSame (c d : Netlist) : Type 0 where
  -- They have as many AND gates.
  pub ands : and_count d ≡ and_count c
  -- They have the same assignments,
  pub assignments : (x bits : ℕ → Bool) → IsAssignment c x bits ↔ IsAssignment d x bits
  -- and so the same outputs for all input bits.
  pub outputs : (x outputs : List Bool) → AreOutputs c x outputs ↔ AreOutputs d x outputs

-- The gates of d are those of c by rank, and by their order in c where ranks are equal: those of rank 0, then those of
-- rank 1, and so on up to a number that all ranks are below.
pub record IsSortedByRank (c d : Netlist) : Type 0 where
  pub end : ℕ
  pub below : All (λ g. rank_in c g < end) c.gates
  pub gates : d.gates ≡ by_rank (rank_in c) end c.gates

-- d is c in order of AND depth: it has the same gates by rank, and computes the same.
pub record IsOrdered (c d : Netlist) : Type 0 where
  pub reordering : IsReordering c d
  pub sorted : IsSortedByRank c d
  pub same : ComputesSame c d
