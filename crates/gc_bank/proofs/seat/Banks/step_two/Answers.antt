use Rattle.gc_bank.proofs.Names.{view, jobs_on, AnswersTwo}
use Rattle.gc_bank.proofs.RoundLemmas.{in_round}
use Rattle.gc_bank.proofs.seat.Banks.step_two.Goals as goal

pub returns-clause-answers : goal.returns-clause-answers
returns-clause-answers g c =
    let old = view c.args.seat.now in
    in_round (jobs_on c.args.self.now) old c.in-Some.round c.at.result.job.now
    (λ r job. AnswersTwo job r c.args.first c.args.second 22 old c.step_two-answers.new.place.me.0
    c.step_two-answers.result)
    (c.args.seat.now.within c.in-Some.round c.in-Some.is).0 c.at.ensures.job
    (rw c.at.ensures.number at c.step_two-answers.ensures.answers)
