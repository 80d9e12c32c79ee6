use Rattle.gc_command.proofs.Names.{map, ap₂, ◌∙◌, IfSome_then, output_lines, flat_map-map}
use Rattle.gc_command.proofs.AnswerLemmas.{SpellValues-widths, length-outputs}
use Rattle.gc_command.proofs.plain.plain.Goals as goal

pub plain_eval-requires : goal.plain_eval-requires
plain_eval-requires g c =
    rw (c.deref-2.ensures.value, ← c.input_widths.ensures)
    (SpellValues-widths _ _ _ c.in_ok-values.ensures.spelled)

pub output_lines-requires : goal.output_lines-requires
output_lines-requires g c =
    rw (c.output_widths.ensures, c.deref-3.ensures.value)
    (length-outputs _ _ _ c.in_ok-outputs.ensures)

pub returns-clause-answers : goal.returns-clause-answers
returns-clause-answers g c =
    rw (← c.as_str-name.ensures.value, ← c.deref.ensures.value, ← c.by_flag-form.ensures)
    (IfSome_then (g.F.Files.bytes c.args.files.now c.as_str-name.result.now)
    c.in_ok-circuit.ensures.circuit (λ bytes circuit. record {
      circuit = c.in_ok-circuit.circuit;
      read = circuit;
      values = map (λ value. value.items) c.in_ok-values.values.items;
      spelled = rw c.input_widths.ensures at c.in_ok-values.ensures.spelled;
      outputs = c.in_ok-outputs.outputs.items;
      computed = rw (flat_map-map, ← c.deref-2.ensures.value) c.in_ok-outputs.ensures;
      printed = c.in_ok-output_lines.ensures
          ∙ ap₂ (output_lines c.by_flag-form.result) c.output_widths.ensures c.deref-3.ensures.value;
    }))
