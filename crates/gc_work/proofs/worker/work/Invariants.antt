use Rattle.gc_work.proofs.Names.{◌≡◌, IsPlacedWorker}
use Rattle.gc_work.proofs.worker.work.Given as goal

abbrev pub invariant-loop : goal.invariant-loop
invariant-loop g l = record {
  ready : IsPlacedWorker l.shared.pools.now l.worker;
  own : l.worker.owner.pool ≡ l.pool;
}
