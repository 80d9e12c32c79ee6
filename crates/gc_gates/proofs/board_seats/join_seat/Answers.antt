use Rattle.std.proofs.Common.{arith}
use Rattle.gc_gates.proofs.BoardSeating.{joins}
use Rattle.gc_gates.proofs.board_seats.join_seat.Goals as goal

pub join_seat-requires : goal.join_seat-requires
join_seat-requires g c = let p = c.requires.place in (
  p.table_id,
  c.requires.other.table_id,
  c.requires.empty.1,
  omega arith,
  joins _ _ c.args.words.now.key _ _ _ _ c.requires.empty.0,
)
