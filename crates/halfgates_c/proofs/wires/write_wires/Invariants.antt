use Rattle.std.proofs.Common.{◌≡◌, ◌+◌, ◌<◌, ℕ, length, slice_get, Some}
use Rattle.gc_circuit.specs.Meaning.{bits_of}
use Rattle.halfgates_c.specs.declared.wires.WireLabels.{WireLabels}
use Rattle.halfgates_c.specs.WireLabels.{AreWireLabels}
use Rattle.halfgates_c.proofs.wires.write_wires.Given as goal

abbrev pub invariant-loop-i : goal.invariant-loop-i
invariant-loop-i l = record {
  count : length l.labels ≡ length l.fn.labels;
  each : (j : ℕ) (x : WireLabels) → j < l.i → slice_get l.labels j ≡ Some x
      → AreWireLabels l.garbling (l.from + j) (bits_of l.all (l.from + j)) x;
}
