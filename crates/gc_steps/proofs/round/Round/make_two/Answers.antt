use Rattle.std.proofs.Common.{◌∙◌}
use Rattle.gc_steps.proofs.RunLemmas.{two_made, made_apart, alone_later}
use Rattle.gc_steps.proofs.round.Round.make_two.Goals as goal

pub returns-in-Some-clause-answers : goal.returns-in-Some-clause-answers
returns-in-Some-clause-answers g c =
    two_made g.R.Frame.layout c.args.self.now.job.now _ _ _ _ _
    c.make_with_one.ensures.answer c.publish.ensures.answer

pub returns-in-None-clause-answers : goal.returns-in-None-clause-answers
returns-in-None-clause-answers g c =
    two_made g.R.Frame.layout c.args.self.now.job.now _ _ _ _ _
    c.make_with_one.ensures.answer c.make.ensures.answer

pub returns-in-Some-clause-alone : goal.returns-in-Some-clause-alone
returns-in-Some-clause-alone g c = λ alone.
    let ran = c.make_with_one.ensures.answer.1 in (
      c.make_with_one.ensures.alone alone,
      λ apart none. c.publish.ensures.alone (alone_later ran alone)
          (rw ran.made (made_apart _ _ _ _ _ apart ∙ none)),
    )

pub returns-in-None-clause-alone : goal.returns-in-None-clause-alone
returns-in-None-clause-alone g c = λ alone.
    let ran = c.make_with_one.ensures.answer.1 in (
      c.make_with_one.ensures.alone alone,
      λ apart none. c.make.ensures.alone (alone_later ran alone)
          (rw ran.made (made_apart _ _ _ _ _ apart ∙ none)),
    )
