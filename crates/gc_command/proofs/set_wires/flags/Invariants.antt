use Rattle.gc_command.proofs.Names.{◌≡◌, map, take, range_with_len, input_wires, is_set}
use Rattle.gc_command.proofs.set_wires.flags.Given as goal

abbrev pub invariant-loop-i : goal.invariant-loop-i
invariant-loop-i g l = l.is_set.items
    ≡ map (is_set (input_wires l.circuit) (take l.i l.circuit.gates))
    (range_with_len 0 l.circuit.wires)
