use Rattle.gc_job.proofs.Names.{◌+◌, sym, ap, ◌∙◌, add-one, and_number-and, and_number-other}
use Rattle.gc_job.proofs.job.Job.and_number.Goals.{then-is_and, else-is_and}
use Rattle.gc_job.proofs.job.Job.and_number.Goals as goal

pub loop-i-preserved : goal.loop-i-preserved
loop-i-preserved g c =
    let circuit = c.circuit-circuit.result.now in
    let i = c.loop-i.i in
    rw (add-one i) (elim c.if-is_and.branch [
      | then-is_and w ↦ w.number-is ∙ ap (λ n. n + 1) c.loop-i.invariant
          ∙ sym (and_number-and circuit i c.gate.result c.gate.ensures
          (sym c.is_and.ensures ∙ w.if-is_and.true))
      | else-is_and w ↦ w.number-is ∙ c.loop-i.invariant
          ∙ sym (and_number-other circuit i c.gate.result c.gate.ensures
          (sym c.is_and.ensures ∙ w.if-is_and.false))
    ])
