use Rattle.std.proofs.Common.{arith}
use Rattle.gc_rounds.proofs.Keeps.{counts_in}
use Rattle.gc_rounds.proofs.steps.count_in.Goals as goal

pub fetch_add-requires : goal.fetch_add-requires
fetch_add-requires g c = let p = c.requires.place in let w = c.requires.outside in (
  p.table_id,
  omega arith,
  rw (← c.requires.asked.0)
      (counts_in _ _ _ _ _ g.met.I.KeptInner.moves _ _ _ p.whole _ w.0 w.1 w.2 c.requires.asked.1),
)
