use Rattle.std.proofs.Common.{refl, arith, length, ◌≡◌}
use Rattle.gc_half.proofs.AndNumbers.{and_number-and, and_number-other}
use Rattle.gc_half.proofs.FourLemmas.{lane-start, can-step, lane-next, lane-end}
use Rattle.gc_half.proofs.four.evaluate_four_from.Goals as goal
use Rattle.gc_half.proofs.four.evaluate_four_from.Goals.{then-is_and, else-is_and}

pub loop-i-init : goal.loop-i-init
loop-i-init g c = record {
  lanes = (
    lane-start c.in_ok-new.ensures.rows c.in_ok-new.ensures.labels,
    lane-start c.in_ok-new-2.ensures.rows c.in_ok-new-2.ensures.labels,
    lane-start c.in_ok-new-3.ensures.rows c.in_ok-new-3.ensures.labels,
    lane-start c.in_ok-new-4.ensures.rows c.in_ok-new-4.ensures.labels,
  );
  numbered = refl;
}

pub step-requires : goal.step-requires
step-requires g c =
    let lawful = c.gates-i-end.ensures.lawful in
    let is = c.loop-i.invariant in
    let at = c.gate-gate.ensures in (
      can-step lawful is.lanes.0 at is.numbered c.requires.a.0,
      can-step lawful is.lanes.1 at is.numbered c.requires.b.0,
      can-step lawful is.lanes.2 at is.numbered c.requires.c.0,
      can-step lawful is.lanes.3 at is.numbered c.requires.d.0,
    )

pub loop-i-preserved : goal.loop-i-preserved
loop-i-preserved g c =
    let circuit = c.args.circuit.now in
    let lawful = c.gates-i-end.ensures.lawful in
    let is = c.loop-i.invariant in
    let i = c.loop-i.i in
    let gate = c.gate-gate.result in
    let at = c.gate-gate.ensures in
    record {
      lanes = (
        lane-next lawful is.lanes.0 at is.numbered c.step.ensures.0,
        lane-next lawful is.lanes.1 at is.numbered c.step.ensures.1,
        lane-next lawful is.lanes.2 at is.numbered c.step.ensures.2,
        lane-next lawful is.lanes.3 at is.numbered c.step.ensures.3,
      );
      numbered = grind (arith, and_number-and circuit i gate, and_number-other circuit i gate);
    }

pub returns : goal.returns
returns g c =
    let lawful = c.gates-i-end.ensures.lawful in
    let lanes = c.loop-i.invariant.lanes in
    let ends : c.loop-i.i ≡ length c.args.circuit.now.gates = omega arith in
    record {
      a = lane-end lawful lanes.0 ends c.into_labels.ensures;
      b = lane-end lawful lanes.1 ends c.into_labels-2.ensures;
      c = lane-end lawful lanes.2 ends c.into_labels-3.ensures;
      d = lane-end lawful lanes.3 ends c.into_labels-4.ensures;
    }
