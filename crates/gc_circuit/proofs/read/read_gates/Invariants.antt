use Rattle.gc_circuit.proofs.Names.{◌≡◌, [], length, Ok, gates_at, AreMarked}
use Rattle.gc_circuit.proofs.read.read_gates.Given as goal

abbrev pub invariant-loop-i : goal.invariant-loop-i
invariant-loop-i g l = record {
  marked : AreMarked l.fn.wires.count l.fn.wires.inputs
      l.body.gates.items l.body.is_set.items l.body.and_count;
  read : gates_at l.fn.wires.count l.fn.wires.inputs l.i [] l.fn.tokens.left
      ≡ Ok (l.body.gates.items, l.tokens.left);
  len : length l.body.gates.items ≡ l.i;
  kept : l.tokens.text ≡ l.fn.tokens.text;
}
