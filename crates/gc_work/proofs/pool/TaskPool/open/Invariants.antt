use Rattle.gc_work.proofs.Names.{◌≡◌, [], length, worker_deque, stealer_deque, worker_view, worker_capacity, worker_index, stolen_by, AllOf, IsOwning}
use Rattle.gc_work.proofs.pool.TaskPool.open.Given as goal

abbrev pub invariant-loop-i : goal.invariant-loop-i
invariant-loop-i g l = record {
  owning : IsOwning (worker_view l.worker) (worker_capacity l.worker) (worker_index l.worker)
      l.capacity l._i;
  fresh : ((worker_view l.worker).pushed ≡ []) × ((worker_view l.worker).popped ≡ []);
  deque : worker_deque l.worker ≡ stealer_deque l.stealer;
  count : length l.others.items ≡ l._i;
  all : AllOf (stealer_deque l.stealer) l.others.items;
  none : stolen_by l.others.items ≡ [];
}
