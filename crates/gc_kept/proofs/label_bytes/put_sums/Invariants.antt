use Rattle.gc_kept.proofs.Names.{◌≡◌, ◌*◌, length, take, flat_map, ◌⊕◌, bytes_of_label, map}
use Rattle.gc_kept.proofs.label_bytes.put_sums.Given as goal

abbrev pub invariant-loop-i : goal.invariant-loop-i
invariant-loop-i l = record {
  done : take (16 * l.i) l.bytes
      ≡ flat_map bytes_of_label (map (λ label. label ⊕ l.difference) (take l.i l.labels));
  count : length l.bytes ≡ 16 * length l.labels;
}
