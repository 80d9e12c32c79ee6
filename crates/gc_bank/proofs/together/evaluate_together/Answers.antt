use Rattle.gc_bank.proofs.together.evaluate_together.Goals as goal

pub returns : goal.returns
returns g c = rw c.in-Ok-open.ensures.jobs at c.all_kept.ensures
