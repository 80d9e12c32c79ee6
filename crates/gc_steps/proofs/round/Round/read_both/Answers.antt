use Rattle.std.proofs.Common.{◌≡◌, inr, ⊎_elim, sym, ◌∙◌}
use Rattle.gc_steps.proofs.LabelLemmas.{active_step}
use Rattle.gc_steps.proofs.RunLemmas.{grown, still, lacks_within, alone_later}
use Rattle.gc_steps.proofs.round.Round.read_both.Goals as goal

pub returns-in-Err-read-clause-err : goal.returns-in-Err-read-clause-err
returns-in-Err-read-clause-err g c =
    let at = rw c.circuit.ensures.circuit at c.gate-operation.ensures in
    let err = c.in-Err-read.ensures.err in (
      record { gate = _; at = at; reads = inr (sym c.second_wire.ensures ∙ err.0) },
      lacks_within (grown c.read.ensures.ran) still err.1,
    )

pub returns-clause-ok : goal.returns-clause-ok
returns-clause-ok g c =
    active_step c.args.self.now.job.now _ _ _ _ c.circuit.ensures.whole.lawful
    (rw c.circuit.ensures.circuit at c.gate-operation.ensures)
    (λ w e. c.in-Ok.ensures.ok w (c.first_wire.ensures ∙ e))
    (λ w e. c.in-Ok-read.ensures.ok w (c.second_wire.ensures ∙ e))

pub returns-in-Err-read-clause-alone : goal.returns-in-Err-read-clause-alone
returns-in-Err-read-clause-alone g c = λ alone gate there.
    let ran = c.read.ensures.ran in
    let at = rw c.circuit.ensures.circuit at c.gate-operation.ensures in
    let same : gate ≡ c.gate-operation.result = cc in
    rw same (inr (
      sym c.second_wire.ensures ∙ c.in-Err-read.ensures.err.0,
      rw ran.made at (c.in-Err-read.ensures.alone (alone_later ran alone)),
      λ u e. c.in-Ok.ensures.alone alone u (c.first_wire.ensures ∙ e),
    ))

pub returns-clause-alone : goal.returns-clause-alone
returns-clause-alone g c = λ alone w read.
    let ran = c.read.ensures.ran in
    let at = rw c.circuit.ensures.circuit at c.gate-operation.ensures in
    let same : read.gate ≡ c.gate-operation.result = cc in
    ⊎_elim (λ e. c.in-Ok.ensures.alone alone w (c.first_wire.ensures ∙ e))
    (λ e. rw ran.made at
    (c.in-Ok-read.ensures.alone (alone_later ran alone) w (c.second_wire.ensures ∙ e)))
    (rw same at read.reads)
