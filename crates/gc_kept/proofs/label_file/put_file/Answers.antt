use Rattle.std.proofs.Common.{take, refl, arith}
use Rattle.gc_kept.proofs.PieceLemmas.{put_rest, label_file-is}
use Rattle.gc_kept.proofs.label_file.put_file.Goals as goal

pub returns : goal.returns
returns c =
    let file = c.put_header.new.file in
    let bytes = c.put_labels.new.bytes in
    rw (put_rest 16 file bytes (omega arith), c.put_labels.ensures)
    (label_file-is c.args.index _ c.args.labels.now (take 16 file) refl c.put_header.ensures.header)
