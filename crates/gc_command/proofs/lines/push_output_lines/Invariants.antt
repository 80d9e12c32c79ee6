use Rattle.gc_command.proofs.Names.{◌≡◌, ◌++◌, drop, length, sum, output_lines}
use Rattle.gc_command.proofs.lines.push_output_lines.Given as goal

-- The lines so far and those of what is left are the lines of all.
abbrev pub invariant-loop-width : goal.invariant-loop-width
invariant-loop-width g l = record {
  left : sum (drop l.width-index l.widths) ≡ length l.left;
  lines : l.lines.items ++ output_lines l.form (drop l.width-index l.widths) l.left
      ≡ l.fn.lines.items ++ output_lines l.form l.widths l.bits;
}
