-- The gates of a circuit.
use Rattle.std.specs.Prelude.{◌≡◌, ℕ, Bool, List, map, count_by}
use Rattle.std.specs.List.{range_with_len}
use Rattle.gc_netlist.specs.declared.gate.Gate.{Gate}
use Rattle.gc_netlist.specs.Circuit.{Netlist, netlist_of, is_and}
use Rattle.gc_netlist.specs.Reading.{is_set}

-- the circuit of these gates, with the wires and the widths of c
abbrev pub with_gates : Netlist → List Gate → Netlist
with_gates c gates = netlist_of c.wires c.input_widths c.output_widths gates

-- The table marks the wires that are set after these gates, and the number is that of their AND gates.
pub record AreMarked (wires inputs : ℕ) (gates : List Gate) (set : List Bool) (ands : ℕ)
    : Type 0 where
  pub table : set ≡ map (is_set inputs gates) (range_with_len 0 wires)
  pub counted : ands ≡ count_by (λ x. is_and x.operation) gates
