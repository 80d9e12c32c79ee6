use Rattle.gc_file.proofs.WriterNames.{◌≡◌, ◌+◌, ◌-◌, refl, arith, entries-one, entries-more, Wrote-more, Wrote-exit}
use Rattle.gc_file.proofs.writer.FileWriter.write_last_entries.Goals as goal

pub returns-in_err-write-clause-bytes : goal.returns-in_err-write-clause-bytes
returns-in_err-write-clause-bytes g c =
    let o = c.args.of.now.offset in let garbling = c.args.of.now.garbling.now in
    let first = c.args.first in let all = garbling.outputs - first in
    let i = c.loop-i.i in let done = i + 1 - first in
    Wrote-exit c.from_residual.result _ c.from_residual.ensures.1
    (entries-one o garbling first (i - first) i done c.pair_bytes.ensures
    c.output_entry-entry_zero.ensures c.output_entry-entry_one.ensures (omega arith) (omega arith))
    (entries-more o garbling first done (all - done) _ all refl refl (omega arith))
    c.loop-i.invariant c.in_err-write.ensures.bytes

pub loop-i-preserved : goal.loop-i-preserved
loop-i-preserved g c =
    let o = c.args.of.now.offset in let garbling = c.args.of.now.garbling.now in
    let first = c.args.first in let i = c.loop-i.i in let done = i + 1 - first in
    Wrote-more (entries-one o garbling first (i - first) i done c.pair_bytes.ensures
    c.output_entry-entry_zero.ensures c.output_entry-entry_one.ensures (omega arith) (omega arith))
    c.loop-i.invariant c.in_ok-write.ensures

pub returns-clause-bytes : goal.returns-clause-bytes
returns-clause-bytes g c =
    let all : c.loop-i.i ≡ c.args.of.now.garbling.now.outputs = omega arith in
    rw all at c.loop-i.invariant.bytes
