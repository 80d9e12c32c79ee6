use Rattle.gc_command.proofs.Names.{◌≡◌, ◌<◌, ◌≤◌, ◌*◌, ◌++◌, length}
use Rattle.gc_command.proofs.labels.LabelLines.next_lines.Given as goal

abbrev pub invariant-loop-line : goal.invariant-loop-line
invariant-loop-line g l = record {
  taken : l.fn.self ≡ l.piece.items ++ l.self;
  size : length l.piece.items ≤ 79 * l._line;
  some : 0 < l._line → 0 < length l.piece.items;
}
