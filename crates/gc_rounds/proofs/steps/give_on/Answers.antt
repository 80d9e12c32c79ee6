use Rattle.std.proofs.Common.{arith}
use Rattle.gc_rounds.proofs.Keeps.{gives_on}
use Rattle.gc_rounds.proofs.steps.give_on.Goals as goal

pub compare_exchange-requires : goal.compare_exchange-requires
compare_exchange-requires g c = let p = c.requires.place in (
  p.table_id,
  omega arith,
  rw (c.stamped-sealed.ensures, c.stamped-open.ensures) (
      gives_on _ _ _ _ _ g.met.I.KeptInner.moves _ _ _ p.whole _ c.requires.outside),
)
