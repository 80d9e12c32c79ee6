use Rattle.gc_eval.proofs.Names.{◌∙◌, Ok, Err, err_from_is_err_and, evaluated_outputs}
use Rattle.gc_job.proofs.OutputLemmas.{length-outputs, no_memory}
use Rattle.gc_eval.proofs.active.Active.decode.Goals as goal

pub returns-in_err-labels-clause-err : goal.returns-in_err-labels-clause-err
returns-in_err-labels-clause-err g c =
    let p = err_from_is_err_and c.from_residual.result c.from_residual.ensures.1 in
    rw (p.1, p.2) (no_memory c.args.self.now.job.now c.law_whole.ensures)

pub decode-requires : goal.decode-requires
decode-requires g c =
    let right = rw c.in-Some.is at c.in_ok-labels.ensures in
    length-outputs _ c.law_whole.ensures.lawful _ _ (c.deref.ensures.value ∙ right.0)

pub returns-in-Ok-clause-ok : goal.returns-in-Ok-clause-ok
returns-in-Ok-clause-ok g c =
    let right = rw c.in-Some.is at c.in_ok-labels.ensures in (
      evaluated_outputs _ _ (Ok _) c.law_whole.ensures (c.deref.ensures.value ∙ right.0)
          c.in-Ok.ensures,
      right.1,
    )

pub returns-clause-err : goal.returns-clause-err
returns-clause-err g c =
    let right = rw c.in-Some.is at c.in_ok-labels.ensures in
    evaluated_outputs _ _ (Err _) c.law_whole.ensures (c.deref.ensures.value ∙ right.0)
    c.in-Err.ensures
