use Rattle.halfgates_c.proofs.Names.{◌≡◌, ◌∙◌, [], append-nil, subst, sym, AllZip, into_iter_items, nil_from_length, HoldsThis}
use Rattle.halfgates_c.proofs.many.handles_of.Goals as goal

pub returns-clause-ok : goal.returns-clause-ok
returns-clause-ok c =
    let none : into_iter_items c.loop-garbling.garbling-iterator ≡ [] =
    nil_from_length (into_iter_items c.loop-garbling.garbling-iterator)
    (sym c.loop-garbling.invariant.len ∙ c.in-None.ensures.steps.0) in
    subst (AllZip HoldsThis c.args.garblings.items) (append-nil c.loop-garbling.handles.items)
    (c.loop-garbling.invariant.held [] (subst (λ l. AllZip HoldsThis l []) (sym none) tt))
