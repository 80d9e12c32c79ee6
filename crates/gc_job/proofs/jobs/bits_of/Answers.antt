use Rattle.gc_job.proofs.Names.{IfSome, Ok, subst, IsEvaluated}
use Rattle.gc_job.proofs.OutputLemmas.{length-evaluated}
use Rattle.gc_job.proofs.jobs.bits_of.Goals as goal

pub returns-in-Some-clause-count : goal.returns-in-Some-clause-count
returns-in-Some-clause-count g c =
    length-evaluated c.args.job.now c.law_whole.ensures c.in-Some.bits.items
    (subst (λ o. IfSome o (λ bits. IsEvaluated c.args.job.now (Ok bits.items))) c.in-Some.is
    c.requires)
