use Rattle.gc_gates.proofs.Keeps.{claims}
use Rattle.gc_gates.proofs.steps.claim.Goals as goal

pub compare_exchange-requires : goal.compare_exchange-requires
compare_exchange-requires g c = let w = c.requires in rw (c.index.ensures.at, c.stamped.ensures)
    (claims _ _ _ _ _ g.met.R.Frame.law _ w.place _ w.empty w.seated w.looked w.free)
