use Rattle.gc_audit.proofs.Names.{◌≡◌, List, take, All, flat_map, RowPair, IsRowPair, row_bytes}
use Rattle.gc_audit.proofs.rows.first_mismatch_in.Given as goal

abbrev pub invariant-loop-place : goal.invariant-loop-place
invariant-loop-place l = (rows : List RowPair) → l.bytes ≡ flat_map row_bytes rows
    → All IsRowPair rows → take l.place rows ≡ take l.place l.garbled
