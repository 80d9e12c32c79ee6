use Rattle.std.proofs.Common.{map, arith}
use Rattle.gc_kept.proofs.JobsLemmas.{length-all}
use Rattle.gc_kept.proofs.jobs.evaluate_list.Goals as goal

pub write_bits-requires : goal.write_bits-requires
write_bits-requires c =
    let count = length-all (map (λ j. j.now) c.args.jobs.now) _
    (rw (← c.deref.ensures.value) at c.in_ok-found.ensures) in
    let all = c.in_ok-all.ensures in
    let room = c.in_ok-has_output_room.ensures.ok in
    grind arith
