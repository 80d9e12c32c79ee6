use Rattle.std.proofs.Common.{◌-◌, length}
use Rattle.gc_store.specs.declared.batch.TheConstants.{BATCH_SIZE}
use Rattle.gc_store.proofs.BatchLemmas.{HasClaimed}
use Rattle.gc_store.proofs.partial.PartialGarbling.claim_some.Given as goal

abbrev pub invariant-loop-self : goal.invariant-loop-self
invariant-loop-self g l = HasClaimed l.fn.self l.fn.batch l.count l.self l.batch

abbrev pub decreases-loop-self : goal.decreases-loop-self
decreases-loop-self g l = BATCH_SIZE - length l.batch
