use Rattle.gc_command.proofs.Names.{◌∙◌, IfSome_then, IfOk-weaker, IfErr-weaker}
use Rattle.gc_command.proofs.WroteLemmas.{cause-writing, IfSome-both, order-unwritten}
use Rattle.gc_command.proofs.order.order.Goals as goal

pub returns-clause-answers : goal.returns-clause-answers
returns-clause-answers g c =
    rw (← c.as_str.ensures.value) (IfOk-weaker c.write_text.result _ _
    (λ lines written. IfSome-both (g.F.Files.bytes c.args.files.now c.as_str.result.now) _ _ _
    (λ bytes circuit wrote. record {
      circuit = c.in_ok-circuit.circuit;
      read = circuit;
      ordered = c.in_ok-text.ensures.0;
      order = c.in_ok-text.ensures.1;
      written = rw (c.deref.ensures.value, c.in_ok-text.ensures.2) at wrote;
    })
    c.in_ok-circuit.ensures.circuit (rw (c.read_circuit.ensures.same c.as_str.result.now)
    at (written c.as_str.result.now))) c.write_text.ensures.written)

pub returns-clause-fault : goal.returns-clause-fault
returns-clause-fault g c =
    rw (← c.as_str.ensures.value) (IfErr-weaker c.write_text.result _ _
    (λ fault unwritten. IfSome_then _ c.in_ok-circuit.ensures.circuit
    (λ bytes circuit. order-unwritten _ c.in_ok-circuit.circuit circuit fault unwritten))
    c.write_text.ensures.fault)

pub returns-clause-cause : goal.returns-clause-cause
returns-clause-cause g c =
    rw (← c.as_str.ensures.value) (IfErr-weaker c.write_text.result _ _
    (λ fault cause. cause-writing fault _ _ (rw c.in_ok-circuit.ensures.counted at cause))
    c.write_text.ensures.cause)

pub returns-clause-unwritten : goal.returns-clause-unwritten
returns-clause-unwritten g c = IfErr-weaker c.write_text.result _ _
    (λ fault same n. same n ∙ c.read_circuit.ensures.same n) c.write_text.ensures.unwritten
