use Rattle.gc_tokens.proofs.Names.{◌≡◌, take, All, false, is_blank}
use Rattle.gc_tokens.proofs.tokens.run_len.Given as goal

abbrev pub invariant-loop-i : goal.invariant-loop-i
invariant-loop-i l = All (λ b. is_blank b ≡ false) (take l.i l.text)
