use Rattle.gc_steps.proofs.Names.{rules, ◌∙◌, refl, sym, only_other, Ran}
use Rattle.gc_steps.proofs.RunLemmas.{unknown, saw_step, grown, still, lacks_within, alone_later}
use Rattle.gc_steps.proofs.round.Round.prepare.Given.{Over}
use Rattle.gc_steps.proofs.round.Round.prepare.Goals.{After-load_state-free}
use Rattle.gc_steps.proofs.round.Round.prepare.Goals as goal

-- The first step looks at the gate.
looked_at : (g : Over) (c : After-load_state-free g)
    → Ran c.args.place.now.me.0 c.load_state-free.new.place.me.0 c.args.place.now.me.0.inner.made 1
looked_at g c = search rules

pub returns-then-free-stamped-2-clause-err : goal.returns-then-free-stamped-2-clause-err
returns-then-free-stamped-2-clause-err g c =
    let e = c.load_state-free.ensures in (
      refl,
      (
        unknown _ _ _ e.finds.known (rw c.stamped.ensures at c.if-free-stamped.false),
        rw (e.view, ← c.stamped-2.ensures, ← c.if-free-stamped-2.true)
            (saw_step _ _ _ _ refl),
      ),
    )

pub returns-in-Err-clause-err : goal.returns-in-Err-clause-err
returns-in-Err-clause-err g c =
    let first = looked_at g (goal.at.returns-in-Err-clause-err g c).After-load_state-free in
    let err = c.in-Err.ensures.err in (
      refl,
      (
        unknown _ _ _ c.load_state-free.ensures.finds.known
            (rw c.stamped.ensures at c.if-free-stamped.false),
        err.0,
        lacks_within (grown first) still err.1,
      ),
    )

pub returns-in-Ok-clause-alone : goal.returns-in-Ok-clause-alone
returns-in-Ok-clause-alone g c = λ alone.
    let first = looked_at g (goal.at.returns-in-Ok-clause-alone g c).After-load_state-free in
    let undone = rw c.stamped.ensures at c.if-free-stamped.false in (
      (c.load_state-free.ensures.finds.alone alone).1 ∙ only_other _ _ (λ e. undone (sym e)),
      rw first.made at (c.in-Ok.ensures.alone (alone_later first alone)),
    )

pub returns-in-Err-clause-alone : goal.returns-in-Err-clause-alone
returns-in-Err-clause-alone g c = λ alone.
    let first = looked_at g (goal.at.returns-in-Err-clause-alone g c).After-load_state-free in
    let undone = rw c.stamped.ensures at c.if-free-stamped.false in (
      (c.load_state-free.ensures.finds.alone alone).1 ∙ only_other _ _ (λ e. undone (sym e)),
      rw first.made at (c.in-Err.ensures.alone (alone_later first alone)),
    )
