use Rattle.gc_steps.proofs.Names.{rules, refl}
use Rattle.gc_steps.proofs.RunLemmas.{unknown, saw_step}
use Rattle.gc_steps.proofs.round.Round.take.Goals as goal

pub returns-then-found-stamped-2-clause-some : goal.returns-then-found-stamped-2-clause-some
returns-then-found-stamped-2-clause-some g c =
    let e = c.claim-found.ensures in (
      (
        unknown _ _ _ e.finds.known (rw c.stamped.ensures at c.if-found-stamped.false),
        rw (e.view, ← c.stamped-2.ensures, ← c.if-found-stamped-2.true)
            (saw_step _ _ _ _ refl),
      ),
      search rules,
    )
