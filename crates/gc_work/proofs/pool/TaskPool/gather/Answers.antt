use Rattle.gc_work.proofs.Names.{rules, worker_view}
use Rattle.gc_work.proofs.PoolMoves.{merges, learns}
use Rattle.gc_work.proofs.LeftLemmas.{counted}
use Rattle.gc_work.proofs.pool.TaskPool.gather.Goals as goal

pub absorb-requires-clause-rule : goal.absorb-requires-clause-rule
absorb-requires-clause-rule g c = merges _ _ _ _ c.loop-thief.invariant.some c.thief.invariant.role

pub len_as-requires : goal.len_as-requires
len_as-requires g c = learns _ _

pub invariant_of-result : goal.invariant_of-result
invariant_of-result g c =
    counted _ _ c.len_as.result c.len_as.ensures.same.2 (search rules) c.len_as.ensures.rule

pub returns-clause-conserved : goal.returns-clause-conserved
returns-clause-conserved g c =
    (counted _ (worker_view c.len_as.new.self) c.len_as.result c.len_as.ensures.same.2
    (search rules) c.len_as.ensures.rule).conserved
