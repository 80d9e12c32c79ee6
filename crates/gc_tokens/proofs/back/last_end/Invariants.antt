use Rattle.gc_tokens.proofs.Names.{◌≡◌, ◌≤◌, length, take, tokens}
use Rattle.gc_tokens.proofs.back.last_end.Given as goal

abbrev pub invariant-loop-end : goal.invariant-loop-end
invariant-loop-end l = record {
  within : l.end ≤ length l.text;
  same : tokens (take l.end l.text) ≡ tokens l.text;
}

abbrev pub decreases-loop-end : goal.decreases-loop-end
decreases-loop-end l = l.end
