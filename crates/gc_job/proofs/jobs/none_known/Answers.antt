use Rattle.gc_job.proofs.jobs.none_known.Goals as goal

pub returns-clause-known : goal.returns-clause-known
returns-clause-known g c = λ jobs k d below. rw (c.loop-i.invariant.none k d below) tt
