use Rattle.gc_steps.proofs.RunLemmas.{made_answer}
use Rattle.gc_steps.proofs.round.Round.make_with_three.Goals as goal

pub returns-clause-answer : goal.returns-clause-answer
returns-clause-answer g c =
    made_answer _ _ _ _ _ g.R.Frame.layout c.args.self.now.job.now _ _ c.requires.empty.0
    c.in_default.ensures.none c.put.ensures.view
    c.labels_of_four-labels.ensures.a
