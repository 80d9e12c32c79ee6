use Rattle.std.proofs.Common.{arith}
use Rattle.gc_rounds.proofs.Keeps.{seals}
use Rattle.gc_rounds.proofs.steps.mark_sealed.Goals as goal

pub fetch_or-requires : goal.fetch_or-requires
fetch_or-requires g c = let p = c.requires.place in (
  p.table_id,
  omega arith,
  seals _ _ _ _ _ g.met.I.KeptInner.moves _ _ _ p.whole _ c.requires.inside,
)
