use Rattle.halfgates_c.proofs.Names.{arith, inr, err_from_is_err_and, Job, OfJob}
use Rattle.halfgates_c.proofs.ListLemmas.{job_is, until}
use Rattle.halfgates_c.proofs.jobs.jobs_of.Goals as goal

pub returns-in_err-job-clause-code : goal.returns-in_err-job-clause-code
returns-in_err-job-clause-code c =
    let l = c.loop-borrow in
    let p = err_from_is_err_and c.from_residual.result c.from_residual.ensures.1 in
    rw (p.1, p.2) (inr (until OfJob Job job_is c.args.borrows.now l.jobs.items (λ it. it.value)
    (λ j. j.now) l.borrow-index c.borrow-item.result c.in_err-job.field-0.0 (omega arith)
    c.borrow-item.is l.invariant c.in_err-job.ensures))
