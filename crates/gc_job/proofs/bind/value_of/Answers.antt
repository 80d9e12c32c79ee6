use Rattle.gc_job.proofs.Names.{length, sym, ap, ◌∙◌, arith, refl, nat_tests, no_such_value, wrong_width}
use Rattle.gc_job.proofs.BindLemmas.{read_at, double_value_at, in_order_at}
use Rattle.gc_job.proofs.bind.value_of.Goals as goal

pub returns-in_default-clause-err : goal.returns-in_default-clause-err
returns-in_default-clause-err g c = λ before marked.
    let past = c.in_default.ensures.lookup.0 in
    let index = c.index-value.ensures in
    no_such_value (grind (arith, nat_tests, past, index))

pub returns-then-labels-width-clause-err : goal.returns-then-labels-width-clause-err
returns-then-labels-width-clause-err g c = λ before marked.
    let found = c.in-Some.ensures.lookup in
    wrong_width c.in-Some.width.now
    (read_at _ _ _ _ _ found.0 found.1 c.index-value.ensures refl)
    (λ e. c.if-labels-width.true (ap length c.labels.ensures ∙ e))

pub returns-then-is_some-clause-err : goal.returns-then-is_some-clause-err
returns-then-is_some-clause-err g c = λ before marked.
    let found = c.in-Some.ensures.lookup in
    let width = ap length (sym c.labels.ensures) ∙ c.if-labels-width.false in
    double_value_at _ before _ c.args.places.now c.requires marked
    (read_at _ _ _ _ _ found.0 found.1 c.index-value.ensures width)
    (rw (← c.index-value.ensures) (sym c.is_some.ensures ∙ c.if-is_some.true))

pub returns-clause-ok : goal.returns-clause-ok
returns-clause-ok g c = λ before marked.
    let found = c.in-Some.ensures.lookup in
    let width = ap length (sym c.labels.ensures) ∙ c.if-labels-width.false in
    in_order_at _ before _ c.args.places.now c.requires marked
    (read_at _ _ _ _ _ found.0 found.1 c.index-value.ensures width)
    (rw (← c.index-value.ensures) (sym c.is_some.ensures ∙ c.if-is_some.false))
