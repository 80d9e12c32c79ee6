use Rattle.halfgates_c.proofs.Names.{inr, map, rules, to_z-of_z, w32, Garbling, OfGarbling}
use Rattle.halfgates_c.proofs.ListLemmas.{all_of, garbling_is, none_of}
use Rattle.halfgates_c.proofs.garblings.write_held.Goals as goal

pub returns-in-Ok-clause-answer : goal.returns-in-Ok-clause-answer
returns-in-Ok-clause-answer c = rw (c.in-Ok.ensures.ok, ← c.deref.ensures.value)
    (inr (all_of OfGarbling Garbling garbling_is (map (λ g. g.now) c.deref.result.now) _ _
    (search rules)))

pub returns-in-Err-clause-answer : goal.returns-in-Err-clause-answer
returns-in-Err-clause-answer c =
    rw (to_z-of_z w32 c.in-Err.code (search rules))
    (none_of OfGarbling Garbling garbling_is (map (λ b. b.value) c.args.borrows.now) _ _
    c.in-Err.ensures.code)
