use Rattle.gc_command.proofs.Names.{◌≡◌, ◌++◌, ◌∷◌, length, encode_lower, packed}
use Rattle.gc_command.proofs.value_form.push_hexadecimal.Given as goal

-- The digits so far and those of what is left are the digits of all.
abbrev pub invariant-loop-left : goal.invariant-loop-left
invariant-loop-left g l =
    l.line.items ++ encode_lower (packed l.left)
    ≡ l.fn.line.items ++ 120 ∷ encode_lower (packed l.bits)

abbrev pub decreases-loop-left : goal.decreases-loop-left
decreases-loop-left g l = length l.left
