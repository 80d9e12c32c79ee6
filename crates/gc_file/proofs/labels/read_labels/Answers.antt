use Rattle.gc_file.proofs.ReaderNames.{◌∙◌, arith, take_rest}
use Rattle.gc_file.proofs.FormLemmas.{label_file_is}
use Rattle.gc_file.proofs.labels.read_labels.Goals as goal

pub returns : goal.returns
returns g c =
    label_file_is c.args.bytes.now (λ i. omega (arith, c.type_inv.bytes i))
    c.in_ok-check_labels.ensures c.u32_at.result c.u32_at.ensures
    c.in_ok-labels.labels.items (c.in_ok-labels.ensures.bytes ∙ take_rest c.args.bytes.now 16)
    c.in_ok-labels.ensures.labels
