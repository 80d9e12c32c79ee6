use Rattle.gc_store.proofs.BatchLemmas.{claimed_more, claimed_end}
use Rattle.gc_store.proofs.partial.PartialGarbling.claim_some.Goals as goal

pub loop-self-preserved : goal.loop-self-preserved
loop-self-preserved g c = claimed_more _ _ _ c.loop-self.invariant c.in-Some.ensures c.push.ensures

pub returns-in_default : goal.returns-in_default
returns-in_default g c = claimed_end _ c.loop-self.invariant c.in_default.ensures
