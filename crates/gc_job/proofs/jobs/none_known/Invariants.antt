use Rattle.std.proofs.Common.{◌≡◌, All, None, length}
use Rattle.gc_job.proofs.jobs.none_known.Given as goal

abbrev pub invariant-loop-i : goal.invariant-loop-i
invariant-loop-i g l = record {
  none : All (λ o. o ≡ None) l.slots.items;
  count : length l.slots.items ≡ l._i;
}
