use Rattle.std.proofs.Common.{arith}
use Rattle.gc_gates.proofs.BoardSeating.{opens}
use Rattle.gc_gates.proofs.board_seats.open_board.Goals as goal

pub of_words-requires : goal.of_words-requires
of_words-requires g c = rw (c.deref.ensures.value, c.requires.words)
    (opens _ _ c.args.key.now _ (omega arith) c.requires.seats)
