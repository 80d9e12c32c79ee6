use Rattle.halfgates_c.proofs.Names.{◌≡◌, Some, map, take, Job}
use Rattle.halfgates_c.proofs.jobs.jobs_of.Given as goal

abbrev pub invariant-loop-borrow : goal.invariant-loop-borrow
invariant-loop-borrow l = map (λ it. it.value) (take l.borrow-index l.borrows)
    ≡ map (λ j. Some (Job j)) (map (λ j. j.now) l.jobs.items)
