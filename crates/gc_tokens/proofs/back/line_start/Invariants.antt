use Rattle.gc_tokens.proofs.Names.{◌≡◌, ◌≤◌, ◌==◌, length, drop, false, All}
use Rattle.gc_tokens.proofs.back.line_start.Given as goal

abbrev pub invariant-loop-start : goal.invariant-loop-start
invariant-loop-start l = record {
  within : l.start ≤ length l.text;
  run : All (λ b. (b == 10) ≡ false) (drop l.start l.text);
}

abbrev pub decreases-loop-start : goal.decreases-loop-start
decreases-loop-start l = l.start
