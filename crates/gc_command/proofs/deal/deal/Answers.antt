use Rattle.gc_command.proofs.Names.{◌∙◌, refl, IfSome_then, IfOk-weaker, IfErr-weaker}
use Rattle.gc_command.proofs.WroteLemmas.{cause-writing, IfSome-both, input_value-width, deal-unwritten}
use Rattle.gc_command.proofs.deal.deal.Goals as goal

pub write_value-requires : goal.write_value-requires
write_value-requires g c =
    rw (c.deref.ensures.value, ← c.input_widths.ensures)
    (input_value-width _ _ _ _ c.in_ok-bits.ensures.spelled)

pub returns-clause-answers : goal.returns-clause-answers
returns-clause-answers g c =
    rw (← c.as_str-name.ensures.value, ← c.as_str-seed.ensures.value, ← c.as_str-value.ensures.value)
    (IfOk-weaker c.write_value.result _ _
    (λ lines written. IfSome-both (g.F.Files.bytes c.args.files.now c.as_str-name.result.now) _ _ _
    (λ bytes circuit wrote. record {
      circuit = c.in_ok-circuit.circuit;
      seed = c.in_ok-seed.seed;
      bits = c.in_ok-bits.bits.items;
      input = record {
        circuit = circuit;
        seed_read = record {
          accepted = c.in_ok-seed.ensures.accepts.0 refl;
          spelled = c.in_ok-seed.ensures.bytes;
        };
        value = rw c.input_widths.ensures at c.in_ok-bits.ensures.spelled;
      };
      written = rw c.deref.ensures.value at wrote;
    })
    c.in_ok-circuit.ensures.circuit (rw (c.read_circuit.ensures.same c.as_str-name.result.now)
    at (written c.as_str-name.result.now))) c.write_value.ensures.written)

pub returns-clause-fault : goal.returns-clause-fault
returns-clause-fault g c =
    rw (← c.as_str-name.ensures.value, ← c.as_str-seed.ensures.value, ← c.as_str-value.ensures.value)
    (IfErr-weaker c.write_value.result _ _
    (λ fault unwritten. IfSome_then _ c.in_ok-circuit.ensures.circuit
    (λ bytes circuit. deal-unwritten record {
      circuit = circuit;
      seed_read = record {
        accepted = c.in_ok-seed.ensures.accepts.0 refl;
        spelled = c.in_ok-seed.ensures.bytes;
      };
      value = rw c.input_widths.ensures at c.in_ok-bits.ensures.spelled;
    } fault unwritten)) c.write_value.ensures.fault)

pub returns-clause-cause : goal.returns-clause-cause
returns-clause-cause g c =
    rw (← c.as_str-name.ensures.value) (IfErr-weaker c.write_value.result _ _
    (λ fault cause. cause-writing fault _ _ (rw c.in_ok-circuit.ensures.counted at cause))
    c.write_value.ensures.cause)

pub returns-clause-unwritten : goal.returns-clause-unwritten
returns-clause-unwritten g c = IfErr-weaker c.write_value.result _ _
    (λ fault same n. same n ∙ c.read_circuit.ensures.same n) c.write_value.ensures.unwritten
