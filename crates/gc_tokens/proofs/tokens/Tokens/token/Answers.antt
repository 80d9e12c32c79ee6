use Rattle.gc_tokens.proofs.CutLemmas.{cut_before}
use Rattle.gc_tokens.proofs.tokens.Tokens.token.Goals as goal

pub invariant_of-self : goal.invariant_of-self
invariant_of-self c =
    let s = c.skip_blanks-text.ensures.suffix in
    rw (c.split_at.ensures.back)
    (cut_before c.self.inside.text.now c.self.inside.rest.now c.skip_blanks-text.result.now s.0
    c.run_len.result c.self.invariant s.1 s.2 c.run_len.ensures.within c.run_len.ensures.ends)
