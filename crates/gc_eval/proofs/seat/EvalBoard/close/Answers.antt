use Rattle.std.proofs.Common.{arith}
use Rattle.gc_eval.proofs.seat.EvalBoard.close.Goals as goal

pub returns-clause-only_here : goal.returns-clause-only_here
returns-clause-only_here g c = λ r gate later.
    let none = c.close_board-closed.ensures.right.only_here r gate later in
    omega (arith, c.gather-whole.ensures.made r gate)
