use Rattle.gc_job.proofs.Names.{◌∙◌, sym, refl, err_from_is_err_and, other_circuit, other_counts, of_labels}
use Rattle.gc_job.proofs.BindLemmas.{other_digest, same_digest}
use Rattle.gc_job.proofs.job.Job.bind_by_digest.Goals as goal

pub returns-then-ne-clause-err : goal.returns-then-ne-clause-err
returns-then-ne-clause-err g c = λ is _. other_circuit (λ same.
    other_digest _ _ _ c.ne.ensures c.if-ne.true (c.digest.ensures ∙ same ∙ sym is))

pub returns-then-not-has_counts-clause-err : goal.returns-then-not-has_counts-clause-err
returns-then-not-has_counts-clause-err g c = λ is _. other_counts
    (sym c.digest.ensures ∙ same_digest _ _ _ c.ne.ensures c.if-ne.false ∙ is)
    (λ counts.
    let fits = c.has_counts.ensures.1 counts in let lacks = c.if-not-has_counts.true in cc)

pub returns-in_err-inputs-clause-err : goal.returns-in_err-inputs-clause-err
returns-in_err-inputs-clause-err g c =
    let p = err_from_is_err_and c.from_residual.result c.from_residual.ensures.1 in
    rw (p.1, p.2) (λ is other. of_labels c.in_err-inputs.field-0.0
    (sym c.digest.ensures ∙ same_digest _ _ _ c.ne.ensures c.if-ne.false ∙ is)
    (c.has_counts.ensures.0 c.if-not-has_counts.false) (c.in_err-inputs.ensures.err other))

pub invariant_of-result : goal.invariant_of-result
invariant_of-result g c =
    let counts = c.has_counts.ensures.0 c.if-not-has_counts.false in
    rw c.new.ensures (record {
      lawful = c.law_lawful.ensures;
      rows = counts.rows;
      decode_bits = counts.decode_bits;
      inputs = c.in_ok-inputs.ensures.ok.count;
    })

pub returns-clause-ok : goal.returns-clause-ok
returns-clause-ok g c = λ is. rw c.new.ensures (record {
  of_circuit = sym c.digest.ensures ∙ same_digest _ _ _ c.ne.ensures c.if-ne.false ∙ is;
  counts = c.has_counts.ensures.0 c.if-not-has_counts.false;
  labels = c.in_ok-inputs.ensures.ok;
  parts = refl;
})
