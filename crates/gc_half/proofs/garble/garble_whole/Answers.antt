use Rattle.std.proofs.Common.{[], sym, ◌∙◌, take_all, arith, length, ◌≤◌}
use Rattle.gc_half.proofs.StreamingLemmas.{ands-few, whole-begun, whole-made, whole-garbled}
use Rattle.gc_half.proofs.garble.garble_whole.Goals as goal

pub garble_piece-table-requires-clause-begun : goal.garble_piece-table-requires-clause-begun
garble_piece-table-requires-clause-begun g c =
    let t = c.args.table in (
      t.offset,
      t.first,
      t.labels,
      [],
      whole-begun c.law_lawful.ensures c.requires.wires c.requires.made c.requires.waiting _,
    )

pub finish-labels-requires : goal.finish-labels-requires
finish-labels-requires g c =
    let ensured = c.garble_piece-table.ensures in
    let made = whole-made c.law_lawful.ensures c.requires.wires c.requires.made c.requires.waiting _
    ensured.garbled c.requires.places ensured.ends in
    record {
      room = omega (arith, made, c.requires.places, c.garble_piece-table.auto.rows);
      number = omega (arith, made, ands-few c.args.circuit.now, c.law_lawful.ensures.few_gates);
    }

pub returns : goal.returns
returns g c =
    let lawful = c.law_lawful.ensures in
    let ensured = c.garble_piece-table.ensures in
    let finish = c.finish-labels.ensures in
    let made = whole-made lawful c.requires.wires c.requires.made c.requires.waiting _
    ensured.garbled c.requires.places ensured.ends in
    let all : length c.finish-labels.new.rows ≤ c.finish-labels.result.1 = omega (arith, made) in
    let rows = sym (take_all _ _ all) ∙ finish.rows in
    rw (finish.labels, rows)
    (whole-garbled lawful c.requires.wires c.requires.made c.requires.waiting _ ensured.garbled
    c.requires.places ensured.ends c.requires.others)
