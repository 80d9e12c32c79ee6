use Rattle.gc_file.proofs.ReaderNames.{arith, bytes_of_label-label_of_bytes}
use Rattle.gc_file.proofs.pairs.label_from_bytes.Goals as goal

pub returns-clause-bytes : goal.returns-clause-bytes
returns-clause-bytes c =
    rw (c.from_bytes.ensures, c.copy_from_slice.ensures.after)
    (bytes_of_label-label_of_bytes c.args.bytes.now c.requires
    (λ i. omega (arith, c.type_inv.bytes i)))
