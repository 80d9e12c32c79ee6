use Rattle.gc_kept.proofs.Names.{take-map, map, refl, arith}
use Rattle.gc_kept.proofs.JobsLemmas.{job_at, outputs_within}
use Rattle.gc_kept.proofs.jobs.has_output_room.Goals as goal

pub returns-then-room-outputs-clause-fault : goal.returns-then-room-outputs-clause-fault
returns-then-room-outputs-clause-fault c =
    let i = c.loop-job.job-index in
    let jobs = c.args.jobs.now in
    let at = job_at jobs (λ j. j.now) i _ (omega arith) c.job-item.is in
    let within = outputs_within (map (λ j. j.now) jobs) i c.job-item.result.now at in
    (refl, omega (arith, rw take-map at within))
