use Rattle.std.proofs.Common.{rules, inr}
use Rattle.gc_command.proofs.AnswerLemmas.{found_where_known}
use Rattle.gc_explain.proofs.ended.Ended.explain_circuit.Goals as goal

pub returns-then-eq : goal.returns-then-eq
returns-then-eq g c =
    rw (← c.circuit-name.ensures)
    (inr (
      c.in-Ok-Some.located,
      search rules,
      search rules,
      found_where_known _ _ _ c.in-Some.ensures
          (rw (c.in-Ok-Some.field-0-is, c.deref.ensures.value) at c.in-Ok-Some.ensures),
    ))
