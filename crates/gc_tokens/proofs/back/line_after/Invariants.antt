use Rattle.gc_tokens.proofs.Names.{◌≡◌, ◌≤◌, ◌+◌, ◌==◌, length, count_by}
use Rattle.gc_tokens.proofs.back.line_after.Given as goal

abbrev pub invariant-loop-rest : goal.invariant-loop-rest
invariant-loop-rest l = record {
  counted : l.line + count_by (λ b. b == 10) l.rest ≡ 1 + count_by (λ b. b == 10) l.before;
  within : l.line + length l.rest ≤ 1 + length l.before;
}

abbrev pub decreases-loop-rest : goal.decreases-loop-rest
decreases-loop-rest l = length l.rest
