use Rattle.gc_bank.proofs.Names.{view, jobs_on, Answers}
use Rattle.gc_bank.proofs.RoundLemmas.{in_round}
use Rattle.gc_bank.proofs.seat.Banks.step.Goals as goal

pub returns-clause-answer : goal.returns-clause-answer
returns-clause-answer g c =
    let old = view c.args.seat.now in
    in_round (jobs_on c.args.self.now) old c.in-Some.round c.at.result.job.now
    (λ r job. Answers job r c.args.gate 11 old c.step-answer.new.place.me.0 c.step-answer.result)
    (c.args.seat.now.within c.in-Some.round c.in-Some.is).0 c.at.ensures.job
    (rw c.at.ensures.number at c.step-answer.ensures.answer)
