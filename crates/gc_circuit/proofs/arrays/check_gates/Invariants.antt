use Rattle.gc_circuit.proofs.Names.{◌≡◌, [], length, map, take, drop, Ok, words_of_gate, gates_at, words_of_numbers, tokens_of, AreMarked}
use Rattle.gc_circuit.proofs.arrays.check_gates.Given as goal

abbrev pub invariant-loop-i : goal.invariant-loop-i
invariant-loop-i g l = record {
  marked : AreMarked l.fn.wires.count l.fn.wires.inputs
      l.body.gates.items l.body.is_set.items l.body.and_count;
  read : gates_at l.fn.wires.count l.fn.wires.inputs l.i [] (tokens_of l.numbers)
      ≡ Ok (l.body.gates.items, tokens_of (drop l.i l.numbers));
  words : map words_of_gate l.body.gates.items ≡ map words_of_numbers (take l.i l.numbers);
  len : length l.body.gates.items ≡ l.i;
}
