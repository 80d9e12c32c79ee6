use Rattle.gc_gates.proofs.Keeps.{loads_state}
use Rattle.gc_gates.proofs.steps.load_state.Goals as goal

pub load-requires : goal.load-requires
load-requires g c = rw c.index.ensures.at (loads_state _ _ _ _ _ g.met.R.Frame.law _ c.requires)
