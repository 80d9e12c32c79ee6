use Rattle.gc_eval.proofs.seat.EvalBoard.step_four.Goals as goal

pub returns-clause-answer : goal.returns-clause-answer
returns-clause-answer g c =
    rw (c.round.ensures.number, c.round.ensures.job) at c.step_four-answers.ensures.answers
