use Rattle.halfgates_c.proofs.Names.{◌≡◌, Some, map, take, Garbling}
use Rattle.halfgates_c.proofs.garblings.garblings_of.Given as goal

abbrev pub invariant-loop-borrow : goal.invariant-loop-borrow
invariant-loop-borrow l = map (λ it. it.value) (take l.borrow-index l.borrows)
    ≡ map (λ g. Some (Garbling g)) (map (λ g. g.now) l.garblings.items)
