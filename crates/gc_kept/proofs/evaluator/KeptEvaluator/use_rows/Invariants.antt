use Rattle.gc_kept.proofs.Names.{◌≡◌, ◌-◌, ◌%◌, ◌≤◌, length, take, UsesRows}
use Rattle.gc_kept.proofs.evaluator.KeptEvaluator.use_rows.Given as goal

abbrev pub invariant-loop-used : goal.invariant-loop-used
invariant-loop-used l = record {
  uses : UsesRows l.fn.self l.self (take l.used l.bytes);
  within : l.used ≤ length l.bytes;
  whole : l.used % 32 ≡ 0;
}

abbrev pub decreases-loop-used : goal.decreases-loop-used
decreases-loop-used l = length l.bytes - l.used
