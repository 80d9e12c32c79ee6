use Rattle.gc_store.proofs.StoreLemmas.{reopen_keeps, states-reopen, stored}
use Rattle.gc_store.proofs.partial.PartialGarbling.reopen.Goals as goal

pub invariant_of-self : goal.invariant_of-self
invariant_of-self g c = rw (c.reopen.ensures.marks, c.reopen.ensures.countdowns)
    (stored (reopen_keeps c.self.invariant.kept))

pub returns : goal.returns
returns g c =
    let states = states-reopen c.self.invariant.kept in
    rw (← c.self.view_is, c.reopen.ensures.marks)
    (rw (← c.self.view_is) at c.claimed-count.ensures, rw states)
