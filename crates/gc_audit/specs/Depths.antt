-- The depth and the AND depth of a wire, together.
use Rattle.std.specs.Prelude.{◌<◌, ℕ, List, slice_index_or}
use Rattle.gc_netlist.specs.declared.gate.Operation.{Operation}
use Rattle.gc_netlist.specs.declared.gate.Gate.{Gate}
use Rattle.gc_depth.specs.Depth.{and_depth_of}
use Rattle.gc_audit.specs.declared.depths.Depths.{Depths}
use Rattle.gc_audit.specs.Stats.{depth_of}

-- Those of an input wire.
abbrev pub none_deep : Depths
none_deep = record { depth = 0; and_depth = 0 }

-- Those of the wire that an operation sets, from those on the wires.
abbrev pub depths_of : (ℕ → Depths) → Operation → Depths
depths_of on operation = record {
  depth = depth_of (λ w. (on w).depth) operation;
  and_depth = and_depth_of (λ w. (on w).and_depth) operation;
}

abbrev pub depths_rule : (ℕ → Depths) → ℕ → Gate → Depths
depths_rule on i g = depths_of on g.operation

-- Those of a wire, in a table.
abbrev pub depths_in : List Depths → ℕ → Depths
depths_in table w = slice_index_or table w none_deep

-- Both are below m.
abbrev pub AreDepthsBelow : ℕ → Depths → Type 0
AreDepthsBelow m d = (d.depth < m) × (d.and_depth < m)
