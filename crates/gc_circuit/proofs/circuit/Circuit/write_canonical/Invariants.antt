use Rattle.gc_circuit.proofs.Names.{ℕ, List, [], ◌-◌, ◌≤◌, length}
use Rattle.gc_circuit.specs.FirstLines.{first_lines}
use Rattle.gc_circuit.proofs.circuit.Circuit.write_canonical.Given as goal

abbrev pub invariant-loop-done : goal.invariant-loop-done
invariant-loop-done g l = record {
  bound : l.done ≤ length l.self.gates;
  written : (whole : List ℕ) → g.S.TextSink.holds l.fn.sink whole []
      → g.S.TextSink.holds l.sink whole (first_lines l.self l.done);
}

abbrev pub decreases-loop-done : goal.decreases-loop-done
decreases-loop-done g l = length l.self.gates - l.done
