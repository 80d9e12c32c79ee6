use Rattle.std.proofs.Common.{arith}
use Rattle.gc_gates.proofs.BoardSeating.{deals}
use Rattle.gc_gates.proofs.board_seats.deal_seat.Goals as goal

pub split_seat-requires : goal.split_seat-requires
split_seat-requires g c = let p = c.requires.place in
    (p.table_id, omega arith, deals _ _ c.args.words.now.key _ _ c.requires.several)
