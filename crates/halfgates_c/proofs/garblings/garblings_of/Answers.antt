use Rattle.halfgates_c.proofs.Names.{arith, inr, err_from_is_err_and, Garbling, OfGarbling}
use Rattle.halfgates_c.proofs.ListLemmas.{garbling_is, until}
use Rattle.halfgates_c.proofs.garblings.garblings_of.Goals as goal

pub returns-in_err-garbling-clause-code : goal.returns-in_err-garbling-clause-code
returns-in_err-garbling-clause-code c =
    let l = c.loop-borrow in
    let p = err_from_is_err_and c.from_residual.result c.from_residual.ensures.1 in
    rw (p.1, p.2) (inr (until OfGarbling Garbling garbling_is c.args.borrows.now l.garblings.items
    (λ it. it.value) (λ g. g.now) l.borrow-index c.borrow-item.result c.in_err-garbling.field-0.0
    (omega arith) c.borrow-item.is l.invariant c.in_err-garbling.ensures))
