use Rattle.std.proofs.Common.{arith}
use Rattle.std.proofs.lemmas.Option.{slice_get_within}
use Rattle.gc_store.proofs.QueueLemmas.{some_busy, put_back_keeps}
use Rattle.gc_store.proofs.queue.Queue.put_back.Goals as goal

pub overflow_sub-self : goal.overflow_sub-self
overflow_sub-self g c =
    omega (arith, some_busy c.self.invariant _ (rw (← c.self.view_is) at c.requires))

pub index_mut-requires : goal.index_mut-requires
index_mut-requires g c = grind (arith, slice_get_within)

pub insert-requires : goal.insert-requires
insert-requires g c = grind (arith, slice_get_within)

pub invariant_of-self : goal.invariant_of-self
invariant_of-self g c =
    put_back_keeps c.self.invariant _ (rw (← c.self.view_is) at c.requires) _ c.insert.ensures
