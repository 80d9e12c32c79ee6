use Rattle.gc_bank.proofs.Names.{length, jobs_on, AreKnown, AreWorkersOf}
use Rattle.gc_bank.proofs.together.all_kept.Given as goal

abbrev pub invariant-loop-worker : goal.invariant-loop-worker
invariant-loop-worker g l = AreWorkersOf l.banks l.workers.items
    × AreKnown (jobs_on l.banks) l.slots.items

abbrev pub decreases-loop-worker : goal.decreases-loop-worker
decreases-loop-worker g l = length l.workers.items
