use Rattle.gc_store.proofs.Names.{refl, arith, slice_get_read}
use Rattle.gc_store.proofs.BatchLemmas.{finishes_next}
use Rattle.gc_store.proofs.shared.LockedStore.finish_all.Goals as goal

pub loop-task-preserved : goal.loop-task-preserved
loop-task-preserved g c =
    let was = c.loop-task.invariant in record {
      tally = omega (arith, was.tally, c.in_default.ensures.raised);
      content = finishes_next _ _ _ _ _ _ _ was.content c.in_default.ensures.step
          (slice_get_read _ _ _ _ refl c.loop-task-test.true c.task-item.is);
      stopped = was.stopped;
      sleeping = was.sleeping;
    }
