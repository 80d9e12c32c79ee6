use Rattle.gc_half.proofs.Names.{◌≡◌, ◌+◌, ◌≤◌, length, and_number}
use Rattle.gc_half.specs.Pieces.{CanEvaluate, EvaluatesOn}
use Rattle.gc_half.proofs.evaluate.evaluate_piece.Given as goal

abbrev pub invariant-loop-i : goal.invariant-loop-i
invariant-loop-i g l = record {
  can : CanEvaluate l.circuit l.i l.table;
  evaluated : EvaluatesOn l.circuit l.rows l.fn.from l.i l.fn.table l.table;
  few : l.left ≤ length l.rows;
  left : l.left + and_number l.circuit l.i ≡ length l.rows + and_number l.circuit l.fn.from;
}
