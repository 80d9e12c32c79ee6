use Rattle.std.proofs.Common.{arith}
use Rattle.gc_kept.proofs.job.KeptJob.evaluate.Goals as goal

pub write_bits-requires : goal.write_bits-requires
write_bits-requires c =
    let count = c.in_ok-found.ensures.count in
    let room = c.in_ok-has_room.ensures.ok in
    grind arith
