-- Circuits that have few AND gates.
use Rattle.std.specs.Prelude.{ℕ, ◌<◌, ◌*◌, length}
use Rattle.gc_netlist.specs.Circuit.{Netlist, and_count}

-- Fewer than three quarters of the gates are AND.
abbrev pub HasFewAnds : Netlist → Type 0
HasFewAnds c = 4 * and_count c < 3 * length c.gates
