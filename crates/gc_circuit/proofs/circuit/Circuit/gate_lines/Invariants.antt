use Rattle.gc_circuit.proofs.Names.{◌≡◌, ◌+◌, ◌-◌, ◌*◌, ◌≤◌, drop, take}
use Rattle.gc_circuit.proofs.CanonLines.{lines_of_gates}
use Rattle.gc_circuit.proofs.circuit.Circuit.gate_lines.Given as goal

abbrev pub invariant-loop-i : goal.invariant-loop-i
invariant-loop-i g l = record {
  written : drop l.start l.room ≡ lines_of_gates (drop l.i (take l.to l.self.gates));
  place : l.from ≤ l.i;
  start : (l.start ≤ 4096) × (4096 ≤ l.start + 41 * (l.to - l.i));
}
