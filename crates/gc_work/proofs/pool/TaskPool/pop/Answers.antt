use Rattle.std.proofs.Common.{arith}
use Rattle.gc_work.proofs.PoolMoves.{pops, pops_first, finds}
use Rattle.gc_work.proofs.pool.TaskPool.pop.Goals as goal

pub pop_as-requires-clause-fifo : goal.pop_as-requires-clause-fifo
pop_as-requires-clause-fifo g c =
    λ _. pops_first _ _ 1 (omega (arith, c.owner.invariant.parts, c.owner.invariant.few))

pub pop_as-requires-clause-lifo : goal.pop_as-requires-clause-lifo
pop_as-requires-clause-lifo g c =
    λ _. pops _ _ (omega (arith, c.owner.invariant.parts, c.owner.invariant.few))

pub pop_as-requires-clause-empty : goal.pop_as-requires-clause-empty
pop_as-requires-clause-empty g c = finds _ _
