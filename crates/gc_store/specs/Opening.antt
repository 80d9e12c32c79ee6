-- The countdowns that a store begins with.
use Rattle.std.specs.Prelude.{ℕ, ◌+◌, ltb, Bool, Option, Some, None, slice_get}
use Rattle.gc_netlist.specs.declared.gate.Gate.{Gate}
use Rattle.gc_netlist.specs.Circuit.{Netlist, input_wires}
use Rattle.gc_store.specs.Readers.{unknown_reads}

-- whether a wire is before wire n; the wires before the number of input wires are those known at first
abbrev pub is_below : ℕ → ℕ → Bool
is_below n w = ltb w n

abbrev pub countdown_from : Netlist → Option Gate → ℕ
countdown_from c None = 1
countdown_from c (Some g) = 1 + unknown_reads (is_below (input_wires c)) g.operation

-- One more than the number of gate i's reads of wires that are no input wires.
abbrev pub opening_countdown : Netlist → ℕ → ℕ
opening_countdown c i = countdown_from c (slice_get c.gates i)
