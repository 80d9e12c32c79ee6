use Rattle.gc_work.proofs.Names.{All, length, AreAllPlaced, IsPlacedWorker, AreOwners}
use Rattle.gc_work.proofs.workers.workers_of.Given as goal

abbrev pub invariant-loop-placed : goal.invariant-loop-placed
invariant-loop-placed g l = record {
  owners : AreOwners l.pools.items l.owners.items;
  rows : AreAllPlaced l.pools.items l.rows.items;
  workers : All (λ w. IsPlacedWorker l.pools.items w) l.workers.items;
}

abbrev pub decreases-loop-placed : goal.decreases-loop-placed
decreases-loop-placed g l = length l.owners.items
