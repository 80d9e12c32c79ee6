use Rattle.std.proofs.Common.{sym, ◌∙◌, arith}
use Rattle.gc_store.proofs.StoreLemmas.{label_count, counts_set, claimed_is, sealed_keeps, sealed_content, number_within}
use Rattle.gc_store.proofs.partial.PartialGarbling.keep.Goals as goal

pub finish-requires : goal.finish-requires
finish-requires g c = rw c.task-task.ensures ((claimed_is c.self.invariant.kept _).1
    (rw (← c.self.view_is) at c.requires.claimed))

pub count_down-requires-clause-counted : goal.count_down-requires-clause-counted
count_down-requires-clause-counted g c =
    rw c.finish.ensures (counts_set c.self.invariant.kept _ _ c.gate-wire.ensures
    (rw (← c.self.view_is, ← c.task-task.ensures) at c.requires.claimed))

pub index_mut-requires : goal.index_mut-requires
index_mut-requires g c =
    let kept = c.self.invariant.kept in
    omega (arith, label_count kept, kept.lawful.circuit.sets _ _ c.gate-wire.ensures)

pub set-requires : goal.set-requires
set-requires g c =
    let within = number_within c.self.invariant.kept _ _ c.task-task.ensures
    (rw (← c.self.view_is) at c.requires.own) c.in-Some.rows (sym c.in-Some.is ∙ c.rows.ensures) in
    omega arith

pub invariant_of-self : goal.invariant_of-self
invariant_of-self g c = rw c.set.ensures (sealed_keeps c.self.invariant.kept _ _ c.task-task.ensures
    (rw (← c.self.view_is) at c.requires.own) _ _ c.count_down.new.queue _ _
    (rw (← c.self.view_is) at c.requires.claimed) c.gate-wire.ensures c.finish.ensures
    c.count_down.ensures.marks c.count_down.ensures.countdowns c.count_down.ensures.counted
    c.zero_label.ensures (sym c.in-Some.is ∙ c.rows.ensures))

pub invariant_of-self-in_default : goal.invariant_of-self-in_default
invariant_of-self-in_default g c = sealed_keeps c.self.invariant.kept _ _ c.task-task.ensures
    (rw (← c.self.view_is) at c.requires.own) _ _ c.count_down.new.queue _ _
    (rw (← c.self.view_is) at c.requires.claimed) c.gate-wire.ensures c.finish.ensures
    c.count_down.ensures.marks c.count_down.ensures.countdowns c.count_down.ensures.counted
    c.zero_label.ensures (sym c.in_default.is ∙ c.rows.ensures)

pub returns-in-Some : goal.returns-in-Some
returns-in-Some g c = rw (← c.self.view_is, c.set.ensures) (sealed_content c.self.invariant.kept _ _
    c.task-task.ensures (rw (← c.self.view_is) at c.requires.own) _ _ c.count_down.new.queue _ _
    (rw (← c.self.view_is) at c.requires.claimed) c.gate-wire.ensures c.finish.ensures
    c.count_down.ensures.marks c.count_down.ensures.countdowns c.count_down.ensures.counted
    c.zero_label.ensures (sym c.in-Some.is ∙ c.rows.ensures))

pub returns-in_default : goal.returns-in_default
returns-in_default g c = rw (← c.self.view_is) (sealed_content c.self.invariant.kept _ _
    c.task-task.ensures (rw (← c.self.view_is) at c.requires.own) _ _ c.count_down.new.queue _ _
    (rw (← c.self.view_is) at c.requires.claimed) c.gate-wire.ensures c.finish.ensures
    c.count_down.ensures.marks c.count_down.ensures.countdowns c.count_down.ensures.counted
    c.zero_label.ensures (sym c.in_default.is ∙ c.rows.ensures))
