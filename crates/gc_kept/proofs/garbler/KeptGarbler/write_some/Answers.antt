use Rattle.gc_kept.proofs.Names.{refl, take, arith, length-take-le, take-append-le, ◌≤◌, length}
use Rattle.gc_kept.proofs.garbler.KeptGarbler.write_some.Goals as goal

pub returns-clause-makes : goal.returns-clause-makes
returns-clause-makes c =
    let made = c.next-made in
    let within : made.result ≤ length made.new.rows = omega arith in
    let count = length-take-le made.result made.new.rows within in
    rw (← c.self.view_is) (record {
      circuit = refl;
      offset = made.ensures.offset;
      first = made.ensures.first;
      piece = take made.result made.new.rows;
      garbled = rw (← c.circuit.ensures.same) made.ensures.piece;
      made = omega arith;
      count = omega arith;
      buffer = rw take-append-le at c.write_rows.ensures;
    })
