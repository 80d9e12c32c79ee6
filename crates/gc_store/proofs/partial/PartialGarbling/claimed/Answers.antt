use Rattle.std.proofs.Common.{arith}
use Rattle.gc_store.proofs.StoreLemmas.{claimed_count}
use Rattle.gc_store.proofs.partial.PartialGarbling.claimed.Goals as goal

pub overflow_sub-result : goal.overflow_sub-result
overflow_sub-result g c = omega (arith, claimed_count c.self.invariant.kept, c.busy.ensures)

pub returns : goal.returns
returns g c = rw (← c.self.view_is)
    (omega (arith, claimed_count c.self.invariant.kept, c.busy.ensures))
