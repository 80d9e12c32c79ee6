use Rattle.std.proofs.Common.{arith}
use Rattle.gc_work.proofs.PoolMoves.{hands, hands_first, finds}
use Rattle.gc_work.proofs.LeftLemmas.{still_gathered, takes_one}
use Rattle.gc_work.proofs.pool.Gathered.next.Goals as goal

pub pop_as-requires-clause-fifo : goal.pop_as-requires-clause-fifo
pop_as-requires-clause-fifo g c = λ _. hands_first _ _ 1 (omega (arith, c.self.invariant.parts))

pub pop_as-requires-clause-lifo : goal.pop_as-requires-clause-lifo
pop_as-requires-clause-lifo g c = λ _. hands _ _ (omega (arith, c.self.invariant.parts))

pub pop_as-requires-clause-empty : goal.pop_as-requires-clause-empty
pop_as-requires-clause-empty g c = finds _ _

pub invariant_of-self : goal.invariant_of-self
invariant_of-self g c = still_gathered _ _ c.pop_as.result c.self.invariant c.pop_as.ensures.rule

pub returns-clause-left : goal.returns-clause-left
returns-clause-left g c = rw (← c.self.view_is)
    (takes_one _ _ c.pop_as.result c.self.invariant c.pop_as.ensures.rule)

pub returns-clause-conserved : goal.returns-clause-conserved
returns-clause-conserved g c =
    (still_gathered _ _ c.pop_as.result c.self.invariant c.pop_as.ensures.rule).conserved
