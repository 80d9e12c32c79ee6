use Rattle.gc_bank.proofs.Names.{arith, view, jobs_on, AnswersFour}
use Rattle.gc_bank.proofs.RoundLemmas.{in_round, four_counted}
use Rattle.gc_bank.proofs.seat.Banks.step_four.Goals as goal

pub returns-clause-answers : goal.returns-clause-answers
returns-clause-answers g c =
    let old = view c.args.seat.now in
    let a = c.args in
    in_round (jobs_on a.self.now) old c.in-Some.round c.at.result.job.now
    (λ r job. AnswersFour job r a.gates.a a.gates.b a.gates.c a.gates.d 72 old
    c.step_four-answers.new.place.me.0 c.step_four-answers.result)
    (a.seat.now.within c.in-Some.round c.in-Some.is).0 c.at.ensures.job
    (rw c.at.ensures.number at c.step_four-answers.ensures.answers)

pub invariant_of-seat-clause-counted : goal.invariant_of-seat-clause-counted
invariant_of-seat-clause-counted g c =
    let ran = c.step_four-answers.ensures.answers.4 in
    let counted = four_counted _ _ _ _ _ _ _ c.step_four-answers.result ran.made in
    omega (arith, c.args.seat.now.counted)
