use Rattle.gc_kept.proofs.Names.{◌≡◌, ◌+◌, length, map, take, outputs_of}
use Rattle.gc_kept.proofs.jobs.has_output_room.Given as goal

abbrev pub invariant-loop-job : goal.invariant-loop-job
invariant-loop-job l =
    l.room + outputs_of (map (λ j. j.now) (take l.job-index l.jobs)) ≡ length l.buffer
