use Rattle.std.proofs.Common.{◌≡◌}
use Rattle.gc_tests.proofs.pools.push_some.Given as goal

abbrev pub invariant-loop-gate : goal.invariant-loop-gate
invariant-loop-gate g l = l.owner.pool ≡ l.pool
