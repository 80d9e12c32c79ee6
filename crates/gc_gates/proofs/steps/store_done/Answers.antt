use Rattle.gc_gates.proofs.Keeps.{stores_done}
use Rattle.gc_gates.proofs.steps.store_done.Goals as goal

pub store-requires : goal.store-requires
store-requires g c = let w = c.requires in
    rw (c.index.ensures.at, c.stamped.ensures)
    (stores_done _ _ _ _ _ g.met.R.Frame.law _ w.place w.has)
