use Rattle.gc_audit.proofs.Names.{length, refl, ap, arith, rules, slice_get_read, row_bytes, length-row_bytes, length-pairs}
use Rattle.gc_audit.proofs.DifferenceLemmas.{same_more, same_all}
use Rattle.gc_audit.proofs.rows.first_mismatch_in.Goals as goal

pub loop-place-preserved : goal.loop-place-preserved
loop-place-preserved c rows spelled each =
    let garbled = c.args.garbled.now in let place = c.loop-place.place in
    same_more rows garbled place c.row_in-given.result c.index-garbled-place.result
    (c.loop-place.invariant rows spelled each) (c.row_in-given.ensures rows spelled each)
    (slice_get_read garbled (length garbled) place c.index-garbled-place.result refl (omega arith)
    c.index-garbled-place.is)
    (search rules)

pub returns-clause-first : goal.returns-clause-first
returns-clause-first c rows spelled each =
    let long = length-pairs row_bytes length-row_bytes rows in
    same_all rows c.args.garbled.now c.loop-place.place
    (omega (arith, ap length spelled, long)) (omega arith)
    (c.loop-place.invariant rows spelled each)
