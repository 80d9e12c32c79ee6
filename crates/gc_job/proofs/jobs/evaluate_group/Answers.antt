use Rattle.std.proofs.Common.{◌+◌, ◌-◌, map, arith, rules}
use Rattle.gc_job.proofs.JobsLemmas.{bits_at}
use Rattle.gc_job.proofs.jobs.evaluate_group.Goals as goal

pub returns-then-first-last-clause-known : goal.returns-then-first-last-clause-known
returns-then-first-last-clause-known g c =
    let jobs = map g.J.AsJob.job c.args.jobs.now in
    c.put.ensures.known jobs c.requires.known
    (bits_at jobs c.args.places.start _ _ c.job_at.ensures (search rules))

pub evaluate_four-a-requires-clause-b : goal.evaluate_four-a-requires-clause-b
evaluate_four-a-requires-clause-b g c =
    c.requires.one (c.args.places.start + 1) _ _ (omega arith) (omega arith) c.job_at-2.ensures
    c.job_at-3.ensures

pub evaluate_four-a-requires-clause-c : goal.evaluate_four-a-requires-clause-c
evaluate_four-a-requires-clause-c g c =
    c.requires.one c.min-third.result _ _ (omega arith) (omega arith) c.job_at-2.ensures
    c.job_at-4.ensures

pub evaluate_four-a-requires-clause-d : goal.evaluate_four-a-requires-clause-d
evaluate_four-a-requires-clause-d g c =
    c.requires.one (c.args.places.end - 1) _ _ (omega arith) (omega arith) c.job_at-2.ensures
    c.job_at-5.ensures

pub returns-clause-known : goal.returns-clause-known
returns-clause-known g c =
    let jobs = map g.J.AsJob.job c.args.jobs.now in
    let found = c.evaluate_four-a.ensures in
    let one = c.put-2.ensures.known jobs c.requires.known
    (bits_at jobs c.args.places.start _ _ c.job_at-2.ensures found.a) in
    let two = c.put-3.ensures.known jobs one
    (bits_at jobs (c.args.places.start + 1) _ _ c.job_at-3.ensures found.b) in
    let three = c.put-4.ensures.known jobs two
    (bits_at jobs c.min-third.result _ _ c.job_at-4.ensures found.c) in
    c.put-5.ensures.known jobs three
    (bits_at jobs (c.args.places.end - 1) _ _ c.job_at-5.ensures found.d)
