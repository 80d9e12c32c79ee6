use Rattle.gc_store.proofs.QueueLemmas.{count_down_rest, count_down_last}
use Rattle.gc_store.proofs.queue.Queue.count_down.Goals as goal

pub invariant_of-self : goal.invariant_of-self
invariant_of-self g c = count_down_last c.self.invariant _ _ (rw (← c.self.view_is) at c.requires)
    c.index.ensures c.if-rest-eq0.true _ c.insert.ensures

pub invariant_of-self-else-rest-eq0 : goal.invariant_of-self-else-rest-eq0
invariant_of-self-else-rest-eq0 g c =
    count_down_rest c.self.invariant _ _ (rw (← c.self.view_is) at c.requires)
    c.index.ensures c.if-rest-eq0.false
