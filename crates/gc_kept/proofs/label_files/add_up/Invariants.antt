use Rattle.gc_kept.proofs.Names.{◌≡◌, ◌+◌, take, sum}
use Rattle.gc_kept.proofs.label_files.add_up.Given as goal

abbrev pub invariant-loop-length : goal.invariant-loop-length
invariant-loop-length l = sum (take l.length-index l.lengths) + l.left ≡ l.total
