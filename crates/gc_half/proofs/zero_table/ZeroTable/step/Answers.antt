use Rattle.gc_half.proofs.Names.{◌≡◌, ◌∙◌, ◌+◌, length, set, ap, arith, hash, numbered_from, ZeroTableParts, rows_made}
use Rattle.gc_half.proofs.OneGateLemmas.{free_gate, not_and}
use Rattle.gc_half.proofs.zero_table.ZeroTable.step.Goals as goal

pub put-requires-clause-once : goal.put-requires-clause-once
put-requires-clause-once g c = c.make_read.ensures.waiting c.args.gate.set c.requires.once

pub put-requires-2-clause-once : goal.put-requires-2-clause-once
put-requires-2-clause-once g c = c.make_read-2.ensures.waiting c.args.gate.set c.requires.once

pub returns-in-Xor-clause-waiting : goal.returns-in-Xor-clause-waiting
returns-in-Xor-clause-waiting g c =
    λ w other before. rw c.put.ensures.waiting (c.make_read.ensures.waiting w before)

pub returns-clause-labels : goal.returns-clause-labels
returns-clause-labels g c =
    let old = c.args.self.now in
    let read = c.make_read-2.ensures in
    let offset : c.self.inside.offset ≡ old.offset =
    ap (λ (v : ZeroTableParts). v.offset) c.self.view_is ∙ read.offset in
    let label = rw (offset, c.read-read.ensures.first, c.read-read.ensures.second, read.labels)
    at c.garble_gate-label.ensures.zero_label in
    c.put-2.ensures.labels
    ∙ rw read.labels (ap (set old.labels c.args.gate.set) (label
    ∙ (free_gate (numbered_from old.first hash) old.offset 0 (old.made + length old.waiting)
    (rows_made old c.args.rows.now) c.args.gate.operation _ _ c.in_default-operation.not-And).0))

pub returns-clause-rows : goal.returns-clause-rows
returns-clause-rows g c =
    let old = c.args.self.now in
    rw (c.put-2.ensures.numbered, c.put-2.ensures.made, c.put-2.ensures.waiting) (c.make_read-2.ensures.rows
    ∙ (free_gate (numbered_from old.first hash) old.offset 0 (old.made + length old.waiting)
    (rows_made old c.args.rows.now) c.args.gate.operation _ _ c.in_default-operation.not-And).1)

pub returns-clause-counted : goal.returns-clause-counted
returns-clause-counted g c =
    let other = not_and c.args.gate.operation c.in_default-operation.not-And in
    rw (c.put-2.ensures.made, c.put-2.ensures.waiting, other)
    (omega (arith, c.make_read-2.ensures.counted))

pub returns-clause-waiting : goal.returns-clause-waiting
returns-clause-waiting g c = λ w other before.
    rw c.put-2.ensures.waiting (c.make_read-2.ensures.waiting w before)

pub returns-in-And-clause-waiting : goal.returns-in-And-clause-waiting
returns-in-And-clause-waiting g c = λ w other before. c.pair.ensures.waiting w other
