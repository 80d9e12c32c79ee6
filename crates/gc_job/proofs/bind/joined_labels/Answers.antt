use Rattle.gc_job.proofs.Names.{◌∙◌, length, rules, refl, arith, slice_get_read}
use Rattle.gc_job.proofs.JoinLemmas.{joined_more}
use Rattle.gc_job.proofs.bind.joined_labels.Goals as goal

pub loop-place-preserved : goal.loop-place-preserved
loop-place-preserved g c =
    c.in_ok-extend_from_slice.ensures.items
    ∙ rw (c.loop-place.invariant, c.labels.ensures)
    (joined_more c.args.files.now c.args.places.now c.loop-place.place-index c.unwrap.result _
    (omega arith) c.unwrap.ensures
    (slice_get_read _ (length c.args.files.now) _ _ refl (search rules) c.index-files-unwrap.is))
