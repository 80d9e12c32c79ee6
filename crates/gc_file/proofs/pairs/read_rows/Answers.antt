use Rattle.gc_file.proofs.ReaderNames.{◌+◌, ◌*◌, arith, take_more_set, AreRead-more}
use Rattle.gc_file.proofs.pairs.read_rows.Goals as goal

pub loop-i-preserved : goal.loop-i-preserved
loop-i-preserved c =
    let i = c.loop-i.i in let pair = c.pair_from_bytes in
    AreRead-more 32 (32 * (i + 1)) c.loop-i.invariant
    (take_more_set c.loop-i.rows i pair.result (omega arith)) pair.ensures.bytes pair.ensures.labels
    (omega arith)
