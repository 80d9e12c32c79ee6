use Rattle.halfgates_c.proofs.Names.{rules, to_z-of_z, w32}
use Rattle.halfgates_c.proofs.ListLemmas.{held_of}
use Rattle.halfgates_c.proofs.jobs.halfgates_evaluate_many.Goals as goal

pub returns-clause-answer : goal.returns-clause-answer
returns-clause-answer c =
    let code = c.evaluate_held-code in
    let is = to_z-of_z w32 code.result (search rules) in
    rw (is, c.in-Ok.ensures.taken, held_of, ← c.deref.ensures.value) code.ensures.answer
