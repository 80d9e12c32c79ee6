use Rattle.std.proofs.Common.{arith}
use Rattle.gc_work.proofs.PoolMoves.{pushes}
use Rattle.gc_work.proofs.pool.TaskPool.push.Goals as goal

pub push_as-requires-clause-pushes : goal.push_as-requires-clause-pushes
push_as-requires-clause-pushes g c =
    pushes _ _ _ (omega (arith, c.owner.invariant.parts, c.owner.invariant.few))
