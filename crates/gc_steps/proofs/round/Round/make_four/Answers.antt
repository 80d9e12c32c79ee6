use Rattle.std.proofs.Common.{arith}
use Rattle.gc_steps.proofs.RunLemmas.{two_made, four_made}
use Rattle.gc_steps.proofs.round.Round.make_four.Goals as goal

pub returns-in_default-clause-answers : goal.returns-in_default-clause-answers
returns-in_default-clause-answers g c =
    let lay = g.R.Frame.layout in let job = c.args.self.now.job.now in
    four_made lay job _ _ _ _ _ _ _ (omega arith)
    (two_made lay job _ _ _ _ _ c.make_with_three-answer.ensures.answer
    c.step-b_answer.ensures.answer)
    c.step_two-c_answer.ensures.answers

pub returns-clause-answers : goal.returns-clause-answers
returns-clause-answers g c =
    let lay = g.R.Frame.layout in let job = c.args.self.now.job.now in
    four_made lay job _ _ _ _ _ _ _ (omega arith)
    (two_made lay job _ _ _ _ _ c.make_with_three-answer.ensures.answer
    c.publish-b_answer.ensures.answer)
    (two_made lay job _ _ _ _ _ c.publish-c_answer.ensures.answer c.publish-d_answer.ensures.answer)
