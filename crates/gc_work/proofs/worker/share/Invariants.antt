use Rattle.std.proofs.Common.{◌≡◌}
use Rattle.gc_work.proofs.worker.share.Given as goal

abbrev pub invariant-loop-i : goal.invariant-loop-i
invariant-loop-i g l = record {
  place : l.worker.place ≡ l.initial.worker.place;
  pool : l.worker.owner.pool ≡ l.initial.worker.owner.pool;
  thieves : l.worker.thieves ≡ l.initial.worker.thieves;
}
