use Rattle.std.proofs.Common.{◌∙◌}
use Rattle.gc_steps.proofs.LabelLemmas.{joined}
use Rattle.gc_steps.proofs.round.Round.load_label.Goals as goal

pub returns-clause-right : goal.returns-clause-right
returns-clause-right g c =
    let law = g.met.J.Jobs.laws in
    c.from_halves.ensures
    ∙ joined c.args.self.now.job.now c.args.gate c.load_low-low.result c.load_high-high.result
    (law.gives _ _ _ c.args.self.now.about _ _ _ c.load_low-low.ensures.found)
    (law.gives _ _ _ c.args.self.now.about _ _ _ c.load_high-high.ensures.found)
