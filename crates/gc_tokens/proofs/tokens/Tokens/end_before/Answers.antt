use Rattle.gc_tokens.proofs.BackLemmas.{end_spot}
use Rattle.gc_tokens.proofs.tokens.Tokens.end_before.Goals as goal

pub returns : goal.returns
returns c = end_spot _ _ _ _ c.before-2.ensures.front c.before-2.ensures.within
    c.before-2.ensures.split c.last_end.ensures.within c.last_end.ensures.same
    c.last_end.ensures.ends c.requires
