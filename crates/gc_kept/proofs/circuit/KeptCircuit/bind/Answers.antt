use Rattle.gc_kept.specs.Job.{of_garbled, of_labels, of_binding, want}
use Rattle.std.proofs.Common.{inr}
use Rattle.gc_kept.proofs.OutcomeLemmas.{if_err}
use Rattle.gc_kept.proofs.circuit.KeptCircuit.bind.Goals as goal

pub returns-in_err-garbled-clause-fault : goal.returns-in_err-garbled-clause-fault
returns-in_err-garbled-clause-fault c =
    if_err _ _ c.from_residual-in_err-garbled.ensures.1 (inr (
      c.in_ok-digest.ensures.ok.taken,
      of_garbled c.in_err-garbled.field-0.0 c.in_err-garbled.ensures,
    ))

pub returns-in_err-labels-clause-fault : goal.returns-in_err-labels-clause-fault
returns-in_err-labels-clause-fault c =
    if_err _ _ c.from_residual-in_err-labels.ensures.1 (inr (
      c.in_ok-digest.ensures.ok.taken,
      of_labels _ _ c.in_ok-garbled.ensures c.in_err-labels.ensures.fault,
    ))

pub returns-in_err-job-clause-fault : goal.returns-in_err-job-clause-fault
returns-in_err-job-clause-fault c =
    if_err _ _ c.from_residual-in_err-job.ensures.1 (inr (
      c.in_ok-digest.ensures.ok.taken,
      of_binding _ _ _ c.in_ok-garbled.ensures c.in_ok-labels.ensures.ok
          (λ other. rw (← c.circuit.ensures.same, ← c.deref.ensures.value)
          (c.in_err-job.ensures.err
          (rw c.circuit.ensures.same c.in_ok-digest.ensures.ok.digest_is) other)),
    ))

pub returns-in_err-again-clause-fault : goal.returns-in_err-again-clause-fault
returns-in_err-again-clause-fault c =
    if_err _ _ c.from_residual-in_err-again.ensures.1
    (rw c.in_err-again.ensures.fault (inr (c.in_ok-digest.ensures.ok.taken, want)))
