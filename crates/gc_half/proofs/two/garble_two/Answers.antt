use Rattle.gc_half.proofs.Names.{IfOk-weaker, length-table}
use Rattle.gc_half.proofs.NumberedLemmas.{garbled-under-seed}
use Rattle.gc_half.proofs.two.garble_two.Goals as goal

pub garble_both-requires-clause-one : goal.garble_both-requires-clause-one
garble_both-requires-clause-one g c = length-table _ _ _ c.in_ok-one.ensures.labels

pub garble_both-requires-clause-other : goal.garble_both-requires-clause-other
garble_both-requires-clause-other g c = length-table _ _ _ c.in_ok-other.ensures.labels

pub returns-clause-one : goal.returns-clause-one
returns-clause-one g c =
    IfOk-weaker c.garble_both.result _ _
    (λ made is. garbled-under-seed c.args.circuit.now c.args.seed.now _ _ made.0
    c.in_ok-one.ensures.labels c.in_ok-one.ensures.offset is)
    c.garble_both.ensures.one

pub returns-clause-other : goal.returns-clause-other
returns-clause-other g c =
    IfOk-weaker c.garble_both.result _ _
    (λ made is. garbled-under-seed c.args.circuit.now c.args.other.now _ _ made.1
    c.in_ok-other.ensures.labels c.in_ok-other.ensures.offset is)
    c.garble_both.ensures.other
