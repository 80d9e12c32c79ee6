use Rattle.gc_file.proofs.WriterNames.{◌≡◌, ◌+◌, ◌-◌, ◌*◌, refl, arith, entries-more, Wrote-more, Wrote-exit}
use Rattle.gc_file.proofs.writer.FileWriter.write_fours.Goals as goal

pub returns-in_err-write_pairs-clause-bytes : goal.returns-in_err-write_pairs-clause-bytes
returns-in_err-write_pairs-clause-bytes g c =
    let o = c.args.of.now.offset in let garbling = c.args.of.now.garbling.now in
    let k = c.loop-k.k in let done = 4 * k + 4 in let all = 4 * c.args.fours in
    Wrote-exit c.from_residual.result _ c.from_residual.ensures.1
    (entries-more o garbling 0 (4 * k) 4 _ done c.four_entry_pairs-pairs.ensures (omega arith) refl)
    (entries-more o garbling 0 done (all - done) _ all refl refl (omega arith))
    c.loop-k.invariant c.in_err-write_pairs.ensures.bytes

pub loop-k-preserved : goal.loop-k-preserved
loop-k-preserved g c =
    let o = c.args.of.now.offset in let garbling = c.args.of.now.garbling.now in
    let k = c.loop-k.k in
    Wrote-more (entries-more o garbling 0 (4 * k) 4 _ (4 * (k + 1))
    c.four_entry_pairs-pairs.ensures (omega arith) (omega arith))
    c.loop-k.invariant c.in_ok-write_pairs.ensures

pub returns-clause-bytes : goal.returns-clause-bytes
returns-clause-bytes g c =
    let all : c.loop-k.k ≡ c.args.fours = omega arith in rw all at c.loop-k.invariant.bytes
