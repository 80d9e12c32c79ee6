-- Tasks: all that garbling one gate takes; and what garbling it gives.
use Rattle.std.specs.Prelude.{ℕ, List, Option}
use Rattle.gc_netlist.specs.declared.gate.Gate.{Gate}
use Rattle.gc_netlist.specs.Circuit.{Netlist, and_number}
use Rattle.gc_label.specs.Seed.{offset_of}
use Rattle.gc_half.specs.declared.garbling.RowPair.{RowPair}
use Rattle.gc_half.specs.Hash.{hash}
use Rattle.gc_half.specs.OneGate.{first_read, second_read, gate_zero, gate_rows}
use Rattle.gc_half.specs.Canonical.{zero_label_of}
use Rattle.gc_store.specs.declared.task.Task.{Task}

-- The task of gate i of a circuit, under a seed: the gate's operation and AND number, the offset, and the zero labels
-- of the wires that it reads.
abbrev pub task_of : Netlist → List ℕ → ℕ → Gate → Task
task_of c seed i g = record {
  gate = i;
  operation = g.operation;
  and_number = and_number c i;
  offset = offset_of seed;
  first = first_read (zero_label_of c seed) g.operation;
  second = second_read (zero_label_of c seed) g.operation;
}

-- What sealing a task gives: the zero label of the wire that its gate sets,
abbrev pub sealed_zero_label : Task → ℕ
sealed_zero_label t = gate_zero hash t.offset t.and_number t.operation t.first t.second

-- and its row pair, which AND alone has.
abbrev pub sealed_rows : Task → Option RowPair
sealed_rows t = gate_rows hash t.offset t.and_number t.operation t.first t.second
