use Rattle.gc_half.proofs.Names.{◌++◌, length, refl, ◌∙◌, ap, arith, and_number, slice_index, length-set, table_step, hash, numbered_from, active_rule}
use Rattle.gc_half.proofs.CircuitLaw.{active_local}
use Rattle.gc_half.proofs.PieceLemmas.{active_of-later, and_number-next, ends-before}
use Rattle.gc_half.proofs.SetWires.{not_set_yet}
use Rattle.gc_half.proofs.evaluate.evaluate_piece.Goals as goal

pub step-requires-clause-once : goal.step-requires-clause-once
step-requires-clause-once g c =
    c.loop-i.invariant.can.waiting c.gate-gate.result.set
    (c.law_lawful.ensures.sets_once c.loop-i.i c.gate-gate.result c.gate-gate.ensures)

pub loop-i-preserved : goal.loop-i-preserved
loop-i-preserved g c =
    let netlist = c.args.circuit.now in
    let lawful = c.law_lawful.ensures in
    let rows = c.args.rows.now in
    let i = c.loop-i.i in
    let gate = c.gate-gate.result in
    let at = c.gate-gate.ensures in
    let before = c.loop-i.invariant in
    let step = c.step.ensures in
    record {
      can = record {
        wires = ap length step.labels ∙ length-set _ gate.set _ ∙ before.can.wires;
        waiting = λ w unset.
            let yet = not_set_yet netlist w i gate at unset in
            step.waiting w yet.0 (before.can.waiting w yet.1);
      };
      evaluated = record {
        numbered = step.numbered ∙ before.evaluated.numbered;
        labels = λ first inputs earlier count number is.
            let rule = active_rule (numbered_from first hash) netlist (earlier ++ rows) in
            step.labels
            ∙ table_step rule (active_local (numbered_from first hash) netlist (earlier ++ rows))
            netlist lawful (slice_index inputs) c.loop-i.table.labels i gate 0 _
            (before.evaluated.labels first inputs earlier count number is) at
            (active_of-later hash first (length earlier) _ _ (and_number netlist i)
            earlier rows (slice_index c.loop-i.table.labels) gate.operation refl
            (before.evaluated.numbered ∙ number)
            (omega (arith, count, before.left, before.few)));
      };
      few = omega (arith, before.few, c.in-Some.ensures);
      left = omega (arith, c.in-Some.ensures, and_number-next netlist i gate at);
    }

pub returns-in_default-clause-ends : goal.returns-in_default-clause-ends
returns-in_default-clause-ends g c =
    ends-before c.args.circuit.now c.loop-i.invariant.left c.gate-gate.ensures
    c.in_default.ensures.0 c.in_default.ensures.1 (omega (arith, c.loop-i.auto.i))
