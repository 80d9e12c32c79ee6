use Rattle.gc_kept.proofs.Names.{◌≡◌, ℕ, Bool, List, true, length, map, take, slice_index, bit_number, colour, encoded_with, AreLabels}
use Rattle.gc_kept.proofs.open.put_bits.Given as goal

abbrev pub invariant-loop-i : goal.invariant-loop-i
invariant-loop-i l = record {
  count : length l.bits ≡ length l.zero_labels;
  done : (offset : ℕ) (opened : List Bool) → colour offset ≡ true
      → AreLabels l.labels (encoded_with offset (slice_index l.zero_labels) 0 opened)
      → take l.i l.bits ≡ map bit_number (take l.i opened);
}
