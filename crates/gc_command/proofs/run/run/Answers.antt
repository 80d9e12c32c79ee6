use Rattle.gc_command.proofs.Names.{IfOk-weaker, IfErr-weaker}
use Rattle.gc_command.proofs.AnswerLemmas.{found_where_known}
use Rattle.gc_command.proofs.run.run.Goals as goal

pub returns-clause-answers : goal.returns-clause-answers
returns-clause-answers g c =
    rw (← c.as_str.ensures.value) (IfOk-weaker c.run_text.result _ _
    (λ lines. found_where_known _ _ _ c.in_ok-text.ensures.given) c.run_text.ensures.answers)

pub returns-clause-fault : goal.returns-clause-fault
returns-clause-fault g c =
    rw (← c.as_str.ensures.value) (IfErr-weaker c.run_text.result _ _
    (λ fault is. found_where_known _ _ _ c.in_ok-text.ensures.given is.first)
    c.run_text.ensures.fault)
