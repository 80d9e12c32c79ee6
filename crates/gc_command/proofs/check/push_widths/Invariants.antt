use Rattle.gc_command.proofs.Names.{◌≡◌, ◌++◌, ◌∷◌, length, decimal, take, numbers_after}
use Rattle.gc_command.proofs.check.push_widths.Given as goal

abbrev pub invariant-loop-width : goal.invariant-loop-width
invariant-loop-width g l =
    l.lines.items ≡ l.fn.lines.items ++ l.name ++ 32 ∷ decimal (length l.widths)
    ++ numbers_after (take l.width-index l.widths)
