use Rattle.std.proofs.Common.{◌++◌, ◌∙◌, take, arith}
use Rattle.gc_half.proofs.StreamingLemmas.{ands-few, garbler-number, piece-begun, piece-made, piece-whole, garbler-after}
use Rattle.gc_half.proofs.streaming_garbler.StreamingGarbler.advance.Goals as goal

pub plus-first-requires : goal.plus-first-requires
plus-first-requires g c =
    garbler-number c.args.circuit.now c.requires.0 c.requires.1 _
    (rw (← c.self.view_is) at c.requires.2)

pub garble_piece-table-requires-clause-begun : goal.garble_piece-table-requires-clause-begun
garble_piece-table-requires-clause-begun g c =
    let is = rw (← c.self.view_is) at c.requires.2 in
    let begins = rw c.replace-labels.ensures.value at c.new-begun.ensures in (
      c.self.inside.offset,
      c.self.inside.first,
      c.requires.0,
      c.requires.1,
      piece-begun is begins c.plus-first.ensures _,
    )

pub finish-labels-requires : goal.finish-labels-requires
finish-labels-requires g c =
    let is = rw (← c.self.view_is) at c.requires.2 in
    let begins = rw c.replace-labels.ensures.value at c.new-begun.ensures in
    let ensured = c.garble_piece-table.ensures in
    let made = piece-made is begins c.plus-first.ensures _ ensured.garbled ensured.ends in
    record {
      room = omega (arith, made, c.garble_piece-table.auto.rows);
      number = omega (arith, made, ands-few c.args.circuit.now, c.law_lawful.ensures.few_gates);
    }

pub overflow_add-self : goal.overflow_add-self
overflow_add-self g c =
    let is = rw (← c.self.view_is) at c.requires.2 in
    let begins = rw c.replace-labels.ensures.value at c.new-begun.ensures in
    let ensured = c.garble_piece-table.ensures in
    let made = piece-made is begins c.plus-first.ensures _ ensured.garbled ensured.ends in
    omega (arith, made, ands-few c.args.circuit.now, c.law_lawful.ensures.few_gates)

pub returns-clause-piece : goal.returns-clause-piece
returns-clause-piece g c = λ given rows began.
    let is = rw (← c.self.view_is) at began in
    let begins = rw c.replace-labels.ensures.value at c.new-begun.ensures in
    let ensured = c.garble_piece-table.ensures in
    let finish = c.finish-labels.ensures in
    rw finish.rows
    (garbler-after is begins c.plus-first.ensures _ ensured.garbled ensured.ends _ _ finish.labels
    finish.made)

pub returns-clause-begun : goal.returns-clause-begun
returns-clause-begun g c =
    let is = rw (← c.self.view_is) at c.requires.2 in
    let begins = rw c.replace-labels.ensures.value at c.new-begun.ensures in
    let ensured = c.garble_piece-table.ensures in
    record {
      given = c.requires.0;
      rows = c.requires.1 ++ take c.finish-labels.result.1 c.finish-labels.new.rows;
      so_far = returns-clause-piece g c c.requires.0 c.requires.1 c.requires.2;
      whole = piece-whole is begins c.plus-first.ensures _ ensured.garbled ensured.ends _
          c.finish-labels.ensures.made;
    }

pub returns-clause-count : goal.returns-clause-count
returns-clause-count g c =
    let is = rw (← c.self.view_is) at c.requires.2 in
    let begins = rw c.replace-labels.ensures.value at c.new-begun.ensures in
    let ensured = c.garble_piece-table.ensures in
    rw (← c.self.view_is) (c.finish-labels.ensures.made
    ∙ piece-made is begins c.plus-first.ensures _ ensured.garbled ensured.ends)
