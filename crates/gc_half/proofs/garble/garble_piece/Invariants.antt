use Rattle.gc_half.proofs.Names.{◌≡◌, ◌+◌, length, and_number, GarblesOn, rows_made}
use Rattle.gc_half.specs.Streaming.{KeepsFrom}
use Rattle.gc_half.proofs.garble.garble_piece.Given as goal

abbrev pub invariant-loop-i : goal.invariant-loop-i
invariant-loop-i g l = record {
  garbled : GarblesOn l.circuit l.fn.from l.i l.fn.table (rows_made l.fn.table l.fn.rows) l.table
      (rows_made l.table l.rows);
  rest : KeepsFrom (l.table.made + length l.table.waiting) l.fn.rows l.rows;
  left : l.left + and_number l.circuit l.i ≡ length l.fn.rows + and_number l.circuit l.fn.from;
}
