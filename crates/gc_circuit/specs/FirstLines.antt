-- The beginning of a canonical text.
use Rattle.std.specs.Prelude.{ℕ, ◌+◌, List, take, flat_map}
use Rattle.gc_netlist.specs.Circuit.{Netlist}
use Rattle.gc_netlist.specs.Canon.{line, lines_of_circuit}

-- The first lines of the canonical text: the four before those of the gates, and those of the first gates.
unfoldable pub first_lines : Netlist → (gates : ℕ) → List ℕ
first_lines c gates = flat_map line (take (4 + gates) (lines_of_circuit c))
