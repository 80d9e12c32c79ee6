use Rattle.std.proofs.Common.{arith}
use Rattle.gc_rounds.proofs.Seating.{joins}
use Rattle.gc_rounds.proofs.seats.join_place.Goals as goal

pub join_seat-requires : goal.join_seat-requires
join_seat-requires g c = let p = c.requires.place in let w = c.requires.idle in (
  p.table_id,
  c.requires.other.table_id,
  w.2,
  omega arith,
  λ s o at apart there. (
    joins _ _ _ _ _ _ _ _ _ _ o.0 at apart there w.0,
    g.met.I.KeptInner.joins _ _ _ _ _ _ _ o.1 at apart there w.0 w.1,
  ),
)
