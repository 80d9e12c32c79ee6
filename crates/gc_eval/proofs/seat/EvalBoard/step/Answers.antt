use Rattle.gc_eval.proofs.seat.EvalBoard.step.Goals as goal

pub returns-clause-answer : goal.returns-clause-answer
returns-clause-answer g c =
    rw (c.round.ensures.number, c.round.ensures.job) at c.step-answer.ensures.answer
