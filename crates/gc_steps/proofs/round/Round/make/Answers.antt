use Rattle.std.proofs.Common.{◌∙◌}
use Rattle.gc_steps.proofs.RunLemmas.{made_answer}
use Rattle.gc_steps.proofs.round.Round.make.Goals as goal

pub returns-clause-answer : goal.returns-clause-answer
returns-clause-answer g c =
    made_answer _ _ _ _ _ g.R.Frame.layout c.args.self.now.job.now _ _ c.requires.empty.0
    c.in_default.ensures.none c.put.ensures.view
    ((rw c.read_gate-read.ensures at c.active_by-label.ensures) ∙ c.requires.ready.labels)
