use Rattle.gc_command.proofs.Names.{map, ap₂, ◌∙◌, output_lines}
use Rattle.gc_command.proofs.AnswerLemmas.{SpellValues-widths, IfErr-exit, length-decoded}
use Rattle.gc_command.proofs.OwnFilesLemmas.{own-honest}
use Rattle.gc_command.proofs.RunLemmas.{honest-decode, honest-fault, want-of-memory}
use Rattle.gc_command.proofs.run.run_text.Goals as goal

pub returns-in_err-garbled-clause-fault : goal.returns-in_err-garbled-clause-fault
returns-in_err-garbled-clause-fault g c =
    let read = c.in_ok-circuit.ensures in
    rw (← c.deref.ensures.value) (IfErr-exit c.from_residual-in_err-garbled.result _ _
    c.from_residual-in_err-garbled.ensures.1
    (want-of-memory read.input read.few _ c.in_err-garbled.ensures.fault))

pub own_labels-requires : goal.own_labels-requires
own_labels-requires g c =
    rw c.deref-2.ensures.value
    (SpellValues-widths _ _ _ c.in_ok-circuit.ensures.input.input_values)

pub returns-in_err-labels-clause-fault : goal.returns-in_err-labels-clause-fault
returns-in_err-labels-clause-fault g c =
    let read = c.in_ok-circuit.ensures in
    rw (← c.deref.ensures.value) (IfErr-exit c.from_residual-in_err-labels.result _ _
    c.from_residual-in_err-labels.ensures.1
    (want-of-memory read.input read.few _ c.in_err-labels.ensures.fault))

pub returns-in_err-outputs-clause-fault : goal.returns-in_err-outputs-clause-fault
returns-in_err-outputs-clause-fault g c =
    let read = c.in_ok-circuit.ensures in
    let honest = own-honest (SpellValues-widths _ _ _ read.input.input_values)
    c.in_ok-garbled.ensures.honest
    (rw c.deref-2.ensures.value at c.in_ok-labels.ensures.labels) in
    rw (← c.deref.ensures.value) (IfErr-exit c.from_residual-in_err-outputs.result _ _
    c.from_residual-in_err-outputs.ensures.1
    (want-of-memory read.input read.few _
    (honest-fault read.input.circuit.lawful honest _ (c.in_err-outputs.ensures.fault read.digest))))

pub output_lines-requires : goal.output_lines-requires
output_lines-requires g c =
    let read = c.in_ok-circuit.ensures in
    rw (c.output_widths.ensures, c.deref-3.ensures.value)
    (length-decoded _ read.input.circuit.lawful _ _ _ (c.in_ok-outputs.ensures.decoded read.digest))

pub returns-clause-answers : goal.returns-clause-answers
returns-clause-answers g c =
    let read = c.in_ok-circuit.ensures in
    let honest = own-honest (SpellValues-widths _ _ _ read.input.input_values)
    c.in_ok-garbled.ensures.honest
    (rw c.deref-2.ensures.value at c.in_ok-labels.ensures.labels) in
    record {
      circuit = c.in_ok-circuit.circuit;
      values = map (λ value. value.items) c.in_ok-circuit.values.items;
      input = rw c.deref.ensures.value at read.input;
      few = read.few;
      outputs = c.in_ok-outputs.outputs.items;
      computed = honest-decode read.input.circuit.lawful honest _
          (c.in_ok-outputs.ensures.decoded read.digest);
      printed = rw (← c.by_flag-form.ensures) (c.in_ok-output_lines.ensures
          ∙ ap₂ (output_lines c.by_flag-form.result) c.output_widths.ensures c.deref-3.ensures.value);
    }
