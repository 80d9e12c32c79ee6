use Rattle.gc_bank.proofs.Names.{◌≡◌, length, refl, sym, ◌∙◌, arith, slice_get_read}
use Rattle.gc_bank.proofs.JobLemmas.{on_more}
use Rattle.gc_bank.proofs.same_circuit.are_on.Goals as goal

pub returns-then-not-equals : goal.returns-then-not-equals
returns-then-not-equals g c =
    let at = slice_get_read c.args.jobs.now _ c.loop-job.job-index _ refl (omega arith)
    c.job-item.is in (
      λ is. absurd (cc),
      λ on. absurd (
          let is = c.equals.ensures.1 (c.circuit.ensures.circuit ∙ on _ _ (omega arith) at) in
          let differs = c.if-not-equals.true in
          cc),
    )

pub loop-job-preserved : goal.loop-job-preserved
loop-job-preserved g c =
    on_more _ _ _ _
    (slice_get_read c.args.jobs.now _ c.loop-job.job-index _ refl (omega arith) c.job-item.is)
    (sym c.circuit.ensures.circuit ∙ c.equals.ensures.0 c.if-not-equals.false) c.loop-job.invariant

pub returns : goal.returns
returns g c =
    let whole : c.loop-job.job-index ≡ length c.args.jobs.now = omega arith in
    (λ is. rw whole at c.loop-job.invariant, λ on. refl)
