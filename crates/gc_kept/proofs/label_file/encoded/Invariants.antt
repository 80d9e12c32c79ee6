use Rattle.gc_kept.proofs.Names.{◌≡◌, length, take, slice_index, encoded_with}
use Rattle.gc_kept.proofs.label_file.encoded.Given as goal

abbrev pub invariant-loop-i : goal.invariant-loop-i
invariant-loop-i l = record {
  labels : l.labels.items ≡ encoded_with l.offset (slice_index l.zero_labels) 0 (take l.i l.bits);
  count : length l.labels.items ≡ l.i;
}
