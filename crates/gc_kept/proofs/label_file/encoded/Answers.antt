use Rattle.gc_kept.proofs.Names.{get_or_read, length_push, ◌≡◌, ◌∙◌, ◌+◌, ap, arith, slice_index}
use Rattle.gc_kept.proofs.LabelFileLemmas.{encoded_next}
use Rattle.gc_kept.proofs.label_file.encoded.Goals as goal

pub loop-i-preserved : goal.loop-i-preserved
loop-i-preserved c =
    let l = c.loop-i in
    let zeros = c.args.zero_labels.now in
    let zero : c.index-zero_labels-i.result ≡ slice_index zeros (0 + l.i) =
    get_or_read zeros l.i _ (omega arith) c.index-zero_labels-i.is 0
    ∙ ap (slice_index zeros) (omega arith) in
    record {
      labels = rw (c.in_ok-push.ensures.items, l.invariant.labels)
          (encoded_next c.args.offset (slice_index zeros) 0 c.args.bits.now l.i _ (omega arith)
          (rw zero at c.encode.ensures));
      count = rw (c.in_ok-push.ensures.items, length_push) (omega arith);
    }
