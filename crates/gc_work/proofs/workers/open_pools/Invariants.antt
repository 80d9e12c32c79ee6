use Rattle.gc_work.proofs.Names.{AreAllPlaced, AreOwners}
use Rattle.gc_work.proofs.workers.open_pools.Given as goal

abbrev pub invariant-loop-i : goal.invariant-loop-i
invariant-loop-i g l = record {
  owners : AreOwners l.pools.items l.owners.items;
  rows : AreAllPlaced l.pools.items l.rows.items;
}
