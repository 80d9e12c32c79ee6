use Rattle.std.proofs.Common.{[]}
use Rattle.gc_half.proofs.StreamingLemmas.{evaluator-begun}
use Rattle.gc_half.proofs.streaming_evaluator.StreamingEvaluator.begin.Goals as goal

pub advance-requires-clause-begun : goal.advance-requires-clause-begun
advance-requires-clause-begun g c = (
  c.args.inputs.now,
  [],
  evaluator-begun c.args.circuit.now c.args.inputs.now _ c.requires.inputs
      (rw c.wires.ensures.count at c.in_ok-labels.ensures) c.args.first c.requires.numbers,
)

pub returns-clause-so_far : goal.returns-clause-so_far
returns-clause-so_far g c =
    c.advance.ensures.piece c.args.inputs.now []
    (evaluator-begun c.args.circuit.now c.args.inputs.now _ c.requires.inputs
    (rw c.wires.ensures.count at c.in_ok-labels.ensures) c.args.first c.requires.numbers)
