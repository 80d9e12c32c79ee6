use Rattle.gc_job.proofs.Names.{map, take, AreEvaluated, AreKnown}
use Rattle.gc_job.proofs.jobs.evaluate_rest.Given as goal

abbrev pub invariant-loop-i : goal.invariant-loop-i
invariant-loop-i g l =
    AreEvaluated (take l.i (map g.J.AsJob.job l.jobs)) (map (λ bits. bits.items) l.all.items)
    × AreKnown (map g.J.AsJob.job l.jobs) l.known.items
