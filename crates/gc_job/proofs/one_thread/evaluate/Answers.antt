use Rattle.gc_job.proofs.one_thread.evaluate.Goals as goal

pub returns-clause-honest : goal.returns-clause-honest
returns-clause-honest g c = rw (← c.as_job.ensures) c.evaluate.ensures.honest
