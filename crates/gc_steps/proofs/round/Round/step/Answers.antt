use Rattle.gc_steps.proofs.RunLemmas.{answers_later}
use Rattle.gc_steps.proofs.round.Round.step.Goals as goal

pub returns-in-Ok-clause-answer : goal.returns-in-Ok-clause-answer
returns-in-Ok-clause-answer g c =
    answers_later g.R.Frame.layout c.args.self.now.job.now _ _ _ c.prepare.ensures.ran
    (rw c.in-Ok.ensures.ok.0 at c.make.ensures.answer)
