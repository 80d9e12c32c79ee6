use Rattle.std.proofs.Common.{arith}
use Rattle.std.proofs.lemmas.Option.{slice_get_within}
use Rattle.gc_store.proofs.QueueLemmas.{unopened}
use Rattle.gc_store.proofs.queue.Queue.open.Goals as goal

pub invariant_of-queue : goal.invariant_of-queue
invariant_of-queue g c = rw c.in_ok-repeated.ensures
    (unopened c.len-gates.result _ _ (omega (arith, c.len-gates.ensures))
    (omega (arith, c.len-gates.ensures, c.requires.few)) c.requires.positive
    c.in_ok-open.ensures.room c.in_ok-open.ensures.empty)

pub returns-clause-countdowns : goal.returns-clause-countdowns
returns-clause-countdowns g c =
    λ i n at. grind (arith, slice_get_within, c.loop-gate.invariant.earlier i n)
