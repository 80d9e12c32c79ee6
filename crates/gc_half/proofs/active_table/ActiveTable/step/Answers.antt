use Rattle.gc_half.proofs.active_table.ActiveTable.step.Goals as goal

pub put-requires-clause-once : goal.put-requires-clause-once
put-requires-clause-once g c = c.make_read.ensures.waiting c.args.gate.set c.requires.once

pub put-requires-else-is_and-clause-once : goal.put-requires-else-is_and-clause-once
put-requires-else-is_and-clause-once g c =
    c.make_read-2.ensures.waiting c.args.gate.set c.requires.once

pub returns-in-Xor-clause-waiting : goal.returns-in-Xor-clause-waiting
returns-in-Xor-clause-waiting g c =
    λ w other before. rw c.put.ensures.waiting (c.make_read.ensures.waiting w before)

pub returns-then-is_and-clause-waiting : goal.returns-then-is_and-clause-waiting
returns-then-is_and-clause-waiting g c =
    λ w other before. c.join.ensures.waiting w other (c.make_read-2.ensures.waiting w before)

pub returns-else-is_and-clause-waiting : goal.returns-else-is_and-clause-waiting
returns-else-is_and-clause-waiting g c = λ w other before.
    rw c.put-else-is_and.ensures.waiting (c.make_read-2.ensures.waiting w before)
