use Rattle.gc_half.proofs.Names.{[], refl, ◌∙◌, arith, length-table}
use Rattle.gc_half.proofs.CircuitLaw.{active-end, active-start}
use Rattle.gc_half.proofs.evaluate.evaluate_from.Goals as goal

pub evaluate_piece-active-requires-clause-begun : goal.evaluate_piece-active-requires-clause-begun
evaluate_piece-active-requires-clause-begun g c = record {
  wires = rw c.new.ensures.labels (length-table _ c.args.circuit.now.wires _
      (rw c.wires.ensures.count at c.in_ok-labels.ensures));
  waiting = λ w unset. rw c.new.ensures.waiting tt;
}

pub returns : goal.returns
returns g c =
    let ends = c.evaluate_piece-active.ensures.ends in
    let whole = ends.whole (omega (arith, ends.number, c.requires.rows)) in
    let start = c.new.ensures.labels ∙ rw c.wires.ensures.count at c.in_ok-labels.ensures in
    active-end c.args.first c.args.circuit.now _ _ _ c.law_lawful.ensures (c.into_labels.ensures
    ∙ rw whole at (c.evaluate_piece-active.ensures.evaluated.labels c.args.first
    c.args.given.inputs.now [] refl (c.new.ensures.numbered ∙ omega arith)
    (active-start _ _ _ _ _ start)))
