use Rattle.std.proofs.Common.{arith}
use Rattle.gc_rounds.proofs.Keeps.{counts_out, bank_small}
use Rattle.gc_rounds.proofs.steps.count_out.Goals as goal

pub fetch_sub-requires : goal.fetch_sub-requires
fetch_sub-requires g c = let p = c.requires.place in let w = c.requires.counted in (
  p.table_id,
  omega arith,
  counts_out _ _ _ _ _ g.met.I.KeptInner.moves _ _ _ p.whole _ (bank_small c.args.round) w.0 w.1,
)
