use Rattle.gc_cli.proofs.Names.{inr, ⊎_elim}
use Rattle.gc_cli.proofs.ArgumentsLemmas.{other-text}
use Rattle.gc_cli.proofs.arguments.is_option.Goals as goal

pub returns-in-Some-clause-yes : goal.returns-in-Some-clause-yes
returns-in-Some-clause-yes c = λ _. inr (c.in-Some.field-0.now, c.in-Some.ensures.file)

pub returns-in-None-clause-no : goal.returns-in-None-clause-no
returns-in-None-clause-no c = λ other is.
    ⊎_elim (other-text _ _ _ c.eq.ensures other)
    (λ named. c.in-None.ensures.none named.0 named.1) is
