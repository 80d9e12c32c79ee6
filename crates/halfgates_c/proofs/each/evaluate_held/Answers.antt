use Rattle.halfgates_c.proofs.Names.{inr, map, rules, to_z-of_z, w32, Job, OfJob}
use Rattle.halfgates_c.proofs.ListLemmas.{all_of, job_is, none_of}
use Rattle.halfgates_c.proofs.each.evaluate_held.Goals as goal

pub returns-in-Ok-clause-answer : goal.returns-in-Ok-clause-answer
returns-in-Ok-clause-answer c = rw (c.in-Ok.ensures.ok, ← c.deref.ensures.value)
    (inr (all_of OfJob Job job_is (map (λ j. j.now) c.deref.result.now) _ _ (search rules)))

pub returns-in-Err-clause-answer : goal.returns-in-Err-clause-answer
returns-in-Err-clause-answer c =
    rw (to_z-of_z w32 c.in-Err.code (search rules))
    (none_of OfJob Job job_is (map (λ b. b.value) c.args.borrows.now) _ _ c.in-Err.ensures.code)
