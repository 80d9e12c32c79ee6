use Rattle.std.proofs.Common.{arith}
use Rattle.gc_gates.proofs.Keeps.{loads_half}
use Rattle.gc_gates.proofs.steps.load_low.Goals as goal

pub load-requires : goal.load-requires
load-requires g c = rw c.index.ensures.at
    (loads_half _ _ _ _ _ g.met.R.Frame.law _ c.requires.place 0 (omega arith)
    (λ s o. (o.1.cells c.args.at.round c.args.at.gate).low))
