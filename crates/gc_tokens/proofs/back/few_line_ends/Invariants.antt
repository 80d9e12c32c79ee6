use Rattle.gc_tokens.proofs.Names.{◌≡◌, ◌≤◌, ◌==◌, take, count_by}
use Rattle.gc_tokens.proofs.back.few_line_ends.Given as goal

abbrev pub invariant-loop-byte : goal.invariant-loop-byte
invariant-loop-byte l = record {
  counted : l.ends ≡ count_by (λ b. b == 10) (take l.byte-index l.text);
  few : l.ends ≤ l.byte-index;
}
