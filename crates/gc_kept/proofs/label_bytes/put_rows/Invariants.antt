use Rattle.gc_kept.proofs.Names.{◌≡◌, ◌*◌, length, take, flat_map, row_bytes}
use Rattle.gc_kept.proofs.label_bytes.put_rows.Given as goal

abbrev pub invariant-loop-i : goal.invariant-loop-i
invariant-loop-i l = record {
  done : take (32 * l.i) l.bytes ≡ flat_map row_bytes (take l.i l.rows);
  count : length l.bytes ≡ 32 * length l.rows;
}
