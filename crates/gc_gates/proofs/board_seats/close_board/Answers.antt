use Rattle.gc_gates.proofs.BoardSeating.{at_rest}
use Rattle.gc_gates.proofs.board_seats.close_board.Goals as goal

pub returns-clause-right : goal.returns-clause-right
returns-clause-right g c =
    at_rest g.J.Subject.gates g.J.Subject.right c.args.table.shared.key _ _ _ _
    c.requires.place.whole c.requires.all c.close_with.ensures.values.2
