use Rattle.gc_half.proofs.Names.{◌≡◌, and_number}
use Rattle.gc_half.specs.SideBySide.{OfBoth}
use Rattle.gc_half.proofs.FourLemmas.{IsLane}
use Rattle.gc_half.proofs.four.evaluate_four_from.Given as goal

abbrev pub invariant-loop-i : goal.invariant-loop-i
invariant-loop-i g l = record {
  lanes : OfBoth (λ given lane. IsLane l.fn.first l.circuit given.rows.now given.inputs.now l.i
      lane.rows.now lane.labels.items) l.fn.given l.lanes;
  numbered : l.k ≡ and_number l.circuit l.i;
}
