use Rattle.gc_work.proofs.Names.{◌≡◌, ◌+◌, ◌<◌, ◌++◌, length, into_iter_items, worker_deque, worker_view, stolen_by, AllOf}
use Rattle.gc_work.proofs.pool.TaskPool.gather.Given as goal

abbrev pub invariant-loop-thief : goal.invariant-loop-thief
invariant-loop-thief g l = record {
  can : (goal.iterator-loop-thief g).can_next l.thief-iterator;
  finite : (goal.iterator-loop-thief g).is_finite l.thief-iterator;
  some : 0 < (worker_view l.worker).parts;
  deque : worker_deque l.worker ≡ worker_deque l.initial.worker;
  pushed : (worker_view l.worker).pushed ≡ (worker_view l.initial.worker).pushed;
  popped : (worker_view l.worker).popped ≡ (worker_view l.initial.worker).popped;
  stolen : (worker_view l.worker).stolen ++ stolen_by (into_iter_items l.thief-iterator)
      ≡ stolen_by l.fn.thieves.items;
  parts : (worker_view l.worker).parts + length (into_iter_items l.thief-iterator)
      ≡ (worker_view l.initial.worker).parts + length l.fn.thieves.items;
  all : AllOf (worker_deque l.worker) (into_iter_items l.thief-iterator);
}
