use Rattle.gc_audit.proofs.Names.{◌+◌, refl, ◌∙◌, arith, entry_pairs_of, length-entry_pairs}
use Rattle.gc_audit.proofs.DifferenceLemmas.{same_all}
use Rattle.gc_audit.proofs.GarbledLemmas.{differ_there, same_there, named_of}
use Rattle.gc_audit.proofs.entries.audit_last.Goals as goal

pub returns-in-Some : goal.returns-in-Some
returns-in-Some g c =
    let a = c.args in let of = a.of.now in let i = c.loop-output.output in
    differ_there of.offset of.garbling.now a.entries.now i _ _ c.loop-output.invariant (omega arith)
    c.index-entries-output.is (omega arith)
    (named_of of.offset of.garbling.now i _ _ c.output_entry-entry_zero.ensures
    c.output_entry-entry_one.ensures)
    c.in-Some.colour c.in-Some.ensures

pub loop-output-preserved : goal.loop-output-preserved
loop-output-preserved g c =
    let a = c.args in let of = a.of.now in let i = c.loop-output.output in
    same_there of.offset of.garbling.now a.entries.now i _ _ c.loop-output.invariant (omega arith)
    c.index-entries-output.is (omega arith)
    (named_of of.offset of.garbling.now i _ _ c.output_entry-entry_zero.ensures
    c.output_entry-entry_one.ensures)
    c.in_default.ensures (i + 1) refl

pub returns : goal.returns
returns g c =
    let a = c.args in let of = a.of.now in
    same_all a.entries.now (entry_pairs_of of.offset of.garbling.now) c.loop-output.output
    (omega arith)
    (length-entry_pairs of.offset of.garbling.now ∙ omega arith) c.loop-output.invariant
