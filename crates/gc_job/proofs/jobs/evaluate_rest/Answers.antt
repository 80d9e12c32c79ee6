use Rattle.gc_job.proofs.Names.{Bool, Vec, Ok, map, ap, ◌∙◌, arith, map-append, length-map, take_all, err_from_is_err_and, IsEvaluated}
use Rattle.gc_job.proofs.JobsLemmas.{evaluated_more, job_fault, if_some}
use Rattle.gc_job.proofs.jobs.evaluate_rest.Goals as goal

pub bits_of-requires : goal.bits_of-requires
bits_of-requires g c =
    if_some _ (λ (v : Vec Bool _). IsEvaluated c.job_at.result (Ok v.items)) _
    (λ v is. is (map g.J.AsJob.job c.args.jobs.now) c.loop-i.invariant.1 _ c.job_at.ensures)
    c.taken-found.ensures.bits

pub returns-in_err-bits : goal.returns-in_err-bits
returns-in_err-bits g c =
    let p = err_from_is_err_and c.from_residual-in_err-bits.result
    c.from_residual-in_err-bits.ensures.1 in
    rw (p.1, p.2) (job_fault _ _ _ _ _ c.job_at.ensures c.in_err-bits.ensures.evaluated
    c.loop-i.invariant.0)

pub loop-i-preserved : goal.loop-i-preserved
loop-i-preserved g c =
    let pushed = ap (map (λ bits. bits.items)) c.in_ok-push.ensures.items
    ∙ map-append _ c.loop-i.all.items _ in (
      rw pushed (evaluated_more _ _ _ _ _ c.job_at.ensures c.in_ok-bits.ensures.evaluated
          c.in_ok-bits.ensures.count c.loop-i.invariant.0),
      c.taken-found.ensures.rest (map g.J.AsJob.job c.args.jobs.now) c.loop-i.invariant.1,
    )

pub returns : goal.returns
returns g c =
    rw (take_all c.loop-i.i (map g.J.AsJob.job c.args.jobs.now)
    (omega (arith, length-map c.args.jobs.now g.J.AsJob.job))) at c.loop-i.invariant.0
