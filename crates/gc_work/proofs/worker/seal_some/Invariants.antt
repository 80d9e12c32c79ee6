use Rattle.std.proofs.Common.{◌≡◌}
use Rattle.gc_work.proofs.worker.seal_some.Given as goal

abbrev pub invariant-loop-i : goal.invariant-loop-i
invariant-loop-i g l = record {
  place : l.member.place ≡ l.initial.member.place;
  pool : l.member.owner.pool ≡ l.initial.member.owner.pool;
  thieves : l.member.thieves ≡ l.initial.member.thieves;
}
