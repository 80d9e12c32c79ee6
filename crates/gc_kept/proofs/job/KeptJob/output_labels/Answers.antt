use Rattle.gc_kept.proofs.Names.{length-output_labels, arith}
use Rattle.gc_kept.proofs.job.KeptJob.output_labels.Goals as goal

pub write_labels-requires : goal.write_labels-requires
write_labels-requires c =
    let count = length-output_labels _ _ _ c.in-Ok.labels.items c.in-Ok.ensures in
    let room = c.in_ok-has_room.ensures.ok in
    grind arith
