use Rattle.gc_half.proofs.Names.{arith, and_number}
use Rattle.std.proofs.lemmas.List.FromFn.{map-range_with_len_more}
use Rattle.gc_half.proofs.AndNumbers.{and_number-and, and_number-other}
use Rattle.gc_half.proofs.numbers.and_numbers.Goals as goal
use Rattle.gc_half.proofs.numbers.and_numbers.Goals.{then-is_and, else-is_and}

pub loop-i-preserved : goal.loop-i-preserved
loop-i-preserved g c =
    let circuit = c.args.circuit.now in
    let i = c.loop-i.i in
    let gate = c.gate.result in
    record {
      written = grind (arith, map-range_with_len_more (and_number circuit) 0 i i);
      next = grind (arith, and_number-and circuit i gate, and_number-other circuit i gate);
    }
