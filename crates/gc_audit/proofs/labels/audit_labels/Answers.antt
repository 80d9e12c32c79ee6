use Rattle.gc_audit.proofs.Names.{input_label_of}
use Rattle.gc_half.proofs.ComparingLemmas.{HasLabels-input}
use Rattle.gc_audit.proofs.labels.audit_labels.Goals as goal

pub audit_labels_with_offset-requires : goal.audit_labels_with_offset-requires
audit_labels_with_offset-requires g c = c.requires.fits

pub returns-clause-verdict : goal.returns-clause-verdict
returns-clause-verdict g c =
    let of = c.args.of.now in
    rw c.offset.ensures at (c.audit_labels_with_offset.ensures.verdict (input_label_of of.seed.now)
    (HasLabels-input of.circuit.now of.seed.now c.law_lawful.ensures of.labels.now c.requires))

pub returns-clause-dealt : goal.returns-clause-dealt
returns-clause-dealt g c =
    let of = c.args.of.now in
    rw c.offset.ensures at (c.audit_labels_with_offset.ensures.dealt (input_label_of of.seed.now)
    (HasLabels-input of.circuit.now of.seed.now c.law_lawful.ensures of.labels.now c.requires))
