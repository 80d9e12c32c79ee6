use Rattle.std.proofs.Common.{map, arith}
use Rattle.gc_kept.proofs.JobsLemmas.{job_at, one_more}
use Rattle.gc_kept.proofs.jobs.end_of_group.Goals as goal

pub loop-end-preserved : goal.loop-end-preserved
loop-end-preserved c =
    let jobs = c.args.jobs.now in
    record {
      some = omega arith;
      within = omega arith;
      one = one_more (map (λ j. j.now) jobs) c.args.first c.loop-end.end _ _
          (job_at jobs (λ j. j.now) c.args.first _ (omega arith) c.index-jobs-first.is)
          (job_at jobs (λ j. j.now) c.loop-end.end _ (omega arith) c.index-jobs-end.is)
          (c.is_beside.ensures.0 c.if-is_beside.true) c.loop-end.invariant.one;
    }
