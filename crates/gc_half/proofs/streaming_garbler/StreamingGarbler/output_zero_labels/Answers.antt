use Rattle.gc_half.proofs.Names.{◌≡◌, ◌∙◌, ap, slice_index, StreamingGarblerParts}
use Rattle.gc_half.proofs.PiecesLaw.{labels-table, outputs-same}
use Rattle.gc_half.proofs.streaming_garbler.StreamingGarbler.output_zero_labels.Goals as goal

pub returns-clause-labels : goal.returns-clause-labels
returns-clause-labels g c = λ given rows is all garbled.
    let netlist = c.args.circuit.now in
    let now = c.args.self.now in
    let labels : c.deref.result.now ≡ now.labels =
    c.deref.ensures.value ∙ ap (λ (v : StreamingGarblerParts). v.labels) c.self.view_is in
    c.output_labels.ensures.last (slice_index now.labels)
    (labels ∙ labels-table netlist given rows now is)
    ∙ outputs-same netlist c.law_lawful.ensures given rows now is all garbled
    (c.requires.begun.whole c.requires.whole)
