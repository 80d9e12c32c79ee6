use Rattle.gc_eval.proofs.Names.{is_pair, total-append}
use Rattle.gc_eval.proofs.seat.EvalBoard.tell.Goals as goal

pub returns-clause-known : goal.returns-clause-known
returns-clause-known g c = λ r gate.
    rw c.copy_known.ensures.to.1 (total-append (is_pair r gate) _ _)
