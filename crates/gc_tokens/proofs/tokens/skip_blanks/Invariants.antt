use Rattle.gc_tokens.proofs.Names.{◌≡◌, drop, tokens}
use Rattle.gc_tokens.proofs.tokens.skip_blanks.Given as goal

abbrev pub invariant-loop-i : goal.invariant-loop-i
invariant-loop-i l = tokens (drop l.i l.text) ≡ tokens l.text
