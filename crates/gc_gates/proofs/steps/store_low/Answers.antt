use Rattle.std.proofs.Common.{arith}
use Rattle.gc_gates.proofs.Keeps.{stores_half}
use Rattle.gc_gates.proofs.steps.store_low.Goals as goal

pub store-requires : goal.store-requires
store-requires g c = let w = c.requires in
    rw c.index.ensures.at
    (stores_half _ _ _ _ _ g.met.R.Frame.law _ w.place 0 _ (omega arith) w.has w.right)
