use Rattle.gc_kept.proofs.Names.{sum_by_more_le, arith}
use Rattle.gc_kept.proofs.label_files.add_up.Goals as goal

pub returns-then-left-length : goal.returns-then-left-length
returns-then-left-length c =
    let l = c.loop-length in
    let bound = sum_by_more_le (λ x. x) c.args.lengths.now l.length-index 0 (omega arith) in
    (λ is. absurd (cc), λ same. absurd (omega arith))
