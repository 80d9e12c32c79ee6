use Rattle.gc_job.proofs.Names.{◌∙◌, length, ap, err_from_is_err_and}
use Rattle.gc_job.proofs.OutputLemmas.{decoded-job, length-output_labels, length-result, no_memory}
use Rattle.gc_job.proofs.HonestLemmas.{honest-result}
use Rattle.gc_job.proofs.detached.JobRef.evaluate.Goals as goal

pub returns-in_err-labels-clause-evaluated : goal.returns-in_err-labels-clause-evaluated
returns-in_err-labels-clause-evaluated g c =
    let p = err_from_is_err_and c.from_residual.result c.from_residual.ensures.1 in
    rw (p.1, p.2) (no_memory _ c.law_whole.ensures)

pub decode-requires : goal.decode-requires
decode-requires g c =
    ap length c.deref.ensures.value ∙ length-output_labels _ _ _ _ c.in_ok-labels.ensures

pub returns-clause-evaluated : goal.returns-clause-evaluated
returns-clause-evaluated g c =
    decoded-job c.args.self.now _ _ c.in_ok-labels.ensures
    (rw (← c.deref.ensures.value) c.decode.ensures)

pub returns-clause-honest : goal.returns-clause-honest
returns-clause-honest g c =
    honest-result (λ outputs. outputs.items) _ c.decode.result c.law_whole.ensures
    (returns-clause-evaluated g c)

pub returns-clause-count : goal.returns-clause-count
returns-clause-count g c =
    length-result (λ outputs. outputs.items) _ c.law_whole.ensures c.decode.result
    (returns-clause-evaluated g c)
