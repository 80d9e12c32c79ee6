use Rattle.gc_audit.proofs.Names.{◌+◌, arith}
use Rattle.gc_audit.proofs.GarbledLemmas.{differ_there, same_there, named_at}
use Rattle.gc_audit.proofs.entries.audit_four.Goals as goal

pub returns-in-Some-clause-some : goal.returns-in-Some-clause-some
returns-in-Some-clause-some g c =
    let a = c.args in let of = a.of.now in
    differ_there of.offset of.garbling.now a.entries.now (a.first + c.loop-i.i) _ _
    c.loop-i.invariant (omega arith) c.index-entries-output.is (omega arith)
    (named_at of.offset of.garbling.now a.first c.loop-i.i _ _ c.four_output_entries-four.ensures
    (omega arith))
    c.in-Some.colour c.in-Some.ensures

pub loop-i-preserved : goal.loop-i-preserved
loop-i-preserved g c =
    let a = c.args in let of = a.of.now in
    same_there of.offset of.garbling.now a.entries.now (a.first + c.loop-i.i) _ _
    c.loop-i.invariant (omega arith) c.index-entries-output.is (omega arith)
    (named_at of.offset of.garbling.now a.first c.loop-i.i _ _ c.four_output_entries-four.ensures
    (omega arith))
    c.in_default.ensures (a.first + (c.loop-i.i + 1)) (omega arith)
