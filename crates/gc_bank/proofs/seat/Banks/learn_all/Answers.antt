use Rattle.std.proofs.Common.{arith}
use Rattle.gc_bank.proofs.seat.Banks.learn_all.Goals as goal

pub returns : goal.returns
returns g c = λ r gate.
    omega (arith, c.gather-whole.ensures.made r gate, c.learn_once.ensures.once r gate)
