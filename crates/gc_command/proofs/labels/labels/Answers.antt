use Rattle.gc_command.proofs.Names.{ℕ, Bool, List, Netlist, IsInput, Fault, map, refl, IfSome_then, IfOk-weaker, IfErr-weaker, HasCause, HasLabelsFault, IsLinesMemoryFault}
use Rattle.gc_command.proofs.AnswerLemmas.{SpellValues-widths}
use Rattle.gc_command.specs.declared.fault.Fault.TheVariants as faults
use Rattle.gc_command.proofs.labels.labels.Goals as goal

-- What may be missing where the lines are made: memory alone.
want-of-memory : {bytes seed : List ℕ} {texts : List (List ℕ)} {c : Netlist}
    {values : List (List Bool)} → IsInput bytes seed texts c values → (fault : Fault)
    → IsLinesMemoryFault fault → HasLabelsFault bytes seed texts fault
want-of-memory input (faults.Circuit fault) want = λ other. absurd (other want)
want-of-memory input (faults.Garbling fault) want = ((_, (_, input)), want)
want-of-memory input faults.Memory want = tt
want-of-memory input fault want = absurd want

want-has_cause : (fault : Fault) (Reading Writing : Type 0) → IsLinesMemoryFault fault
    → HasCause fault Reading Writing
want-has_cause faults.CannotRead Reading Writing want = absurd want
want-has_cause faults.CannotWrite Reading Writing want = absurd want
want-has_cause fault Reading Writing want = tt

pub lines_of-requires : goal.lines_of-requires
lines_of-requires g c =
    rw (c.deref-2.ensures.value, ← c.input_widths.ensures)
    (SpellValues-widths _ _ _ c.in_ok-values.ensures.spelled)

pub returns-clause-answers : goal.returns-clause-answers
returns-clause-answers g c =
    rw (← c.as_str-name.ensures.value, ← c.as_str-seed.ensures.value, ← c.deref.ensures.value)
    (IfOk-weaker c.lines_of.result _ _
    (λ lines are. IfSome_then (g.F.Files.bytes c.args.files.now c.as_str-name.result.now)
    c.in_ok-circuit.ensures.circuit (λ bytes circuit. record {
      circuit = c.in_ok-circuit.circuit;
      seed = c.in_ok-seed.seed;
      values = map (λ value. value.items) c.in_ok-values.values.items;
      input = record {
        circuit = circuit;
        seed_text = c.in_ok-seed.ensures.accepts.0 refl;
        input_values = rw c.input_widths.ensures at c.in_ok-values.ensures.spelled;
      };
      seed_read = record {
        accepted = c.in_ok-seed.ensures.accepts.0 refl;
        spelled = c.in_ok-seed.ensures.bytes;
      };
      printed = rw c.deref-2.ensures.value at are;
    })) c.lines_of.ensures.lines)

pub returns-clause-fault : goal.returns-clause-fault
returns-clause-fault g c =
    rw (← c.as_str-name.ensures.value, ← c.as_str-seed.ensures.value, ← c.deref.ensures.value)
    (IfErr-weaker c.lines_of.result _ _
    (λ fault want. IfSome_then _ c.in_ok-circuit.ensures.circuit
    (λ bytes circuit. want-of-memory record {
      circuit = circuit;
      seed_text = c.in_ok-seed.ensures.accepts.0 refl;
      input_values = rw c.input_widths.ensures at c.in_ok-values.ensures.spelled;
    } fault want)) c.lines_of.ensures.fault)

pub returns-clause-cause : goal.returns-clause-cause
returns-clause-cause g c =
    rw (← c.as_str-name.ensures.value)
    (IfErr-weaker c.lines_of.result _ _
    (λ fault want. want-has_cause fault _ _ want) c.lines_of.ensures.fault)
