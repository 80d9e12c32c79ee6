use Rattle.gc_kept.proofs.Names.{◌≡◌, ℕ, Bool, List, true, false, length, take, slice_index, encoded_with, AreLabels, HasWrongLabel}
use Rattle.gc_kept.proofs.open.are_right.Given as goal

abbrev pub invariant-loop-i : goal.invariant-loop-i
invariant-loop-i l = record {
  right : l.all ≡ true → (active : List ℕ) → AreLabels l.labels active
      → (bits : List Bool)
      × (take l.i active ≡ encoded_with l.offset (slice_index l.zero_labels) 0 bits)
      × (length bits ≡ l.i);
  wrong : l.all ≡ false → (active : List ℕ) → AreLabels l.labels active
      → HasWrongLabel l.offset (slice_index l.zero_labels) 0 l.labels;
}
