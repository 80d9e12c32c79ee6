use Rattle.gc_eval.proofs.Names.{arith}
use Rattle.gc_eval.proofs.many.all_work.Goals as goal

pub returns : goal.returns
returns g c = λ k d below.
    let at = (c.for_each_mut.ensures k d (omega (arith, below))).1 in
    rw (← at.left) at.call
