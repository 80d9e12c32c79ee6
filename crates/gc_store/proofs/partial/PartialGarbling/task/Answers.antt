use Rattle.gc_store.proofs.Names.{refl, arith, slice_get_within, and_number, length-table, EachRead-below}
use Rattle.gc_store.proofs.StoreLemmas.{label_count, own_task}
use Rattle.gc_store.proofs.partial.PartialGarbling.task.Goals as goal

pub labels_read-first-requires : goal.labels_read-first-requires
labels_read-first-requires g c =
    let kept = c.self.invariant.kept in
    rw (c.deref.ensures.value, label_count kept)
    (EachRead-below _ kept.lawful.circuit _ _ c.gate-operation.ensures)

pub index-requires : goal.index-requires
index-requires g c =
    let numbers = c.self.invariant.kept.and_numbers in
    let count = length-table (and_number c.self.inside.circuit) _ _ numbers in
    grind (arith, slice_get_within)

pub returns-clause-own : goal.returns-clause-own
returns-clause-own g c = rw (← c.self.view_is)
    (own_task c.self.invariant.kept _ c.gate-operation.result
    (rw (← c.self.view_is) at c.requires) c.gate-operation.ensures refl c.index.ensures refl
    (rw c.deref.ensures.value at c.labels_read-first.ensures.first)
    (rw c.deref.ensures.value at c.labels_read-first.ensures.second))
