use Rattle.gc_file.proofs.ReaderNames.{◌+◌, ◌*◌, arith, AreRead-more}
use Rattle.gc_file.proofs.labels.labels_from_bytes.Goals as goal

pub loop-i-preserved : goal.loop-i-preserved
loop-i-preserved g c =
    let label = c.label_from_bytes.ensures in
    AreRead-more 16 (16 * (c.loop-i.i + 1)) c.loop-i.invariant c.in_ok-push.ensures.items label.bytes
    label.fits (omega arith)
