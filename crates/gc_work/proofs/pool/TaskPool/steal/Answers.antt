use Rattle.std.proofs.Common.{arith, ap}
use Rattle.gc_work.proofs.PoolMoves.{steals}
use Rattle.gc_work.proofs.pool.TaskPool.steal.Goals as goal

pub steal_as-requires-clause-takes : goal.steal_as-requires-clause-takes
steal_as-requires-clause-takes g c =
    steals _ _ 1 (omega (arith, ap (λ v. v.parts) c.thief.invariant.role))
