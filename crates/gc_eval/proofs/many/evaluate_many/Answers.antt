use Rattle.gc_eval.proofs.Names.{err_from_is_err_and, Ok, Err}
use Rattle.gc_job.proofs.HonestLemmas.{honest-evaluates}
use Rattle.gc_eval.proofs.many.evaluate_many.Goals as goal

pub returns-in_err-bits-clause-honest : goal.returns-in_err-bits-clause-honest
returns-in_err-bits-clause-honest g c = λ seed bits honest _.
    let p = err_from_is_err_and c.from_residual.result c.from_residual.ensures.1 in
    rw (p.1, p.2)
    (honest-evaluates _ c.law_whole.ensures seed bits honest (Err _)
    c.in_err-bits.ensures.err)

pub returns-in-Some-clause-honest : goal.returns-in-Some-clause-honest
returns-in-Some-clause-honest g c = λ seed bits honest _.
    honest-evaluates _ c.law_whole.ensures seed bits honest (Ok _)
    (rw c.in-Some.is at c.in_ok-bits.ensures.ok)

pub returns-in-None-clause-honest : goal.returns-in-None-clause-honest
returns-in-None-clause-honest g c = λ seed bits honest _. c.evaluate.ensures.honest seed bits honest
