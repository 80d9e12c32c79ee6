use Rattle.std.proofs.Common.{arith}
use Rattle.gc_steps.proofs.Names.{Ran}
use Rattle.gc_steps.proofs.RunLemmas.{ran_then, four_made, four_later}
use Rattle.gc_steps.proofs.round.Round.step_four.Given.{Over}
use Rattle.gc_steps.proofs.round.Round.step_four.Goals.{After-prepare-d_found}
use Rattle.gc_steps.proofs.round.Round.step_four.Goals as goal

-- The four gates are looked at first.
looked_at : (g : Over) (c : After-prepare-d_found g)
    → Ran c.args.place.now.me.0 c.prepare-d_found.new.place.me.0 c.args.place.now.me.0.inner.made 28
looked_at g c =
    let a = c.prepare-a_found.ensures.ran in
    let b = c.prepare-b_found.ensures.ran in
    let third = c.prepare-c_found.ensures.ran in
    let fourth = c.prepare-d_found.ensures.ran in
    rw (third.made, b.made, a.made) at (ran_then (ran_then (ran_then a b) third) fourth)

pub returns-in_default-clause-answers : goal.returns-in_default-clause-answers
returns-in_default-clause-answers g c =
    let lay = g.R.Frame.layout in let job = c.args.self.now.job.now in
    four_later lay job _ {n = 44} _ _ _ _ _ (omega arith)
    (looked_at g (goal.at.returns-in_default-clause-answers g c).After-prepare-d_found)
    (four_made lay job _ _ _ _ _ _ _ (omega arith) c.step_two-a_answer.ensures.answers
    c.step_two-c_answer.ensures.answers)

pub returns-clause-answers : goal.returns-clause-answers
returns-clause-answers g c =
    let lay = g.R.Frame.layout in let job = c.args.self.now.job.now in
    let ready = c.in-Ok-Ok-Ok-Ok in
    let a = (rw ready.is-0 at c.prepare-a_found.ensures.ok).0 in
    let b = (rw ready.is-1 at c.prepare-b_found.ensures.ok).0 in
    let third = (rw ready.is-2 at c.prepare-c_found.ensures.ok).0 in
    let fourth = (rw ready.is-3 at c.prepare-d_found.ensures.ok).0 in
    four_later lay job _ {n = 37} _ _ _ _ _ (omega arith)
    (looked_at g (goal.at.returns-clause-answers g c).After-prepare-d_found)
    (rw (a, b, third, fourth) at c.make_four.ensures.answers)
