use Rattle.std.proofs.Common.{arith}
use Rattle.gc_rounds.proofs.Seating.{deals}
use Rattle.gc_rounds.proofs.seats.deal_place.Goals as goal

pub split_seat-requires : goal.split_seat-requires
split_seat-requires g c = let p = c.requires.place in let w = c.requires in (
  p.table_id,
  omega arith,
  λ s o at. (
    deals _ _ _ _ _ _ _ o.0 at w.several w.outside,
    g.met.I.KeptInner.deals _ _ _ _ _ o.1 at w.several,
  ),
)
