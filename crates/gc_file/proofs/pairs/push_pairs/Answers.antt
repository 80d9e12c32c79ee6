use Rattle.gc_file.proofs.ReaderNames.{◌+◌, ◌*◌, arith, AreRead-more}
use Rattle.gc_file.proofs.pairs.push_pairs.Goals as goal

pub loop-i-preserved : goal.loop-i-preserved
loop-i-preserved g c =
    let pair = c.pair_from_bytes.ensures in
    AreRead-more 32 (32 * (c.loop-i.i + 1)) c.loop-i.invariant c.in_ok-push.ensures.items pair.bytes
    pair.labels (omega arith)
