use Rattle.gc_audit.proofs.Names.{◌≡◌, ℕ, length, take, encoded_with, HasInputLabels}
use Rattle.gc_audit.proofs.labels.compare.Given as goal

abbrev pub invariant-loop-i : goal.invariant-loop-i
invariant-loop-i g l = record {
  read : (zero_label : ℕ → ℕ) → HasInputLabels l.of.circuit.now l.of.garbling.now zero_label
      → take l.i l.filed ≡ encoded_with l.of.offset zero_label l.first l.bits.items;
  count : length l.bits.items ≡ l.i;
}
