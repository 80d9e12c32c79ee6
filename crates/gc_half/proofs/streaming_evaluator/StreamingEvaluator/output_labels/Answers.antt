use Rattle.gc_half.proofs.Names.{◌≡◌, ◌∙◌, ap, length-table, StreamingEvaluatorParts}
use Rattle.gc_half.proofs.CircuitLaw.{active-end}
use Rattle.gc_half.proofs.streaming_evaluator.StreamingEvaluator.output_labels.Goals as goal

pub output_labels-requires : goal.output_labels-requires
output_labels-requires g c =
    let labels : c.deref.result.now ≡ c.args.self.now.labels =
    c.deref.ensures.value ∙ ap (λ (v : StreamingEvaluatorParts). v.labels) c.self.view_is in
    rw labels (length-table _ c.args.circuit.now.wires _ c.requires.begun.so_far.labels)

pub returns-clause-labels : goal.returns-clause-labels
returns-clause-labels g c = λ inputs rows is.
    let netlist = c.args.circuit.now in
    let now = c.args.self.now in
    let labels : c.deref.result.now ≡ now.labels =
    c.deref.ensures.value ∙ ap (λ (v : StreamingEvaluatorParts). v.labels) c.self.view_is in
    let whole = c.requires.begun.whole c.requires.whole in
    let are = active-end now.first netlist rows inputs _ c.law_lawful.ensures
    (rw whole at is.labels) in
    record {
      active = are.active;
      evaluation = are.evaluation;
      last = c.output_labels.ensures.last are.active (labels ∙ are.table);
    }
