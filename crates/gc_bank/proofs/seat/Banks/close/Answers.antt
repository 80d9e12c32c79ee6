use Rattle.gc_bank.proofs.seat.Banks.close.Goals as goal

pub returns-clause-count : goal.returns-clause-count
returns-clause-count g c = rw c.deref-2.ensures.value at c.made_by-made.ensures
