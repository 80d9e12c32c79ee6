use Rattle.gc_store.proofs.Names.{arith, nat_tests, slice_get_within}
use Rattle.gc_store.proofs.StoreLemmas.{claimed_is, claimed_reads}
use Rattle.gc_store.proofs.partial.PartialGarbling.is_claimed.Goals as goal

pub returns-then-i-gates : goal.returns-then-i-gates
returns-then-i-gates g c =
    let kept = c.self.invariant.kept in
    rw (← c.self.view_is)
    (grind (arith, c.is_claimed.ensures, claimed_is kept c.args.i, claimed_reads kept c.args.i))

pub returns-else-i-gates : goal.returns-else-i-gates
returns-else-i-gates g c =
    let kept = c.self.invariant.kept in
    let count = c.gates.ensures.count in
    rw (← c.self.view_is)
    (grind (arith, nat_tests, slice_get_within, kept.lawful.states, c.if-i-gates.false))
