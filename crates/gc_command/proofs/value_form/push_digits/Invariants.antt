use Rattle.gc_command.proofs.Names.{◌≡◌, ◌++◌, map, take, binary_digit}
use Rattle.gc_command.proofs.value_form.push_digits.Given as goal

abbrev pub invariant-loop-bit : goal.invariant-loop-bit
invariant-loop-bit g l =
    l.line.items ≡ l.fn.line.items ++ map binary_digit (take l.bit-index l.bits)
