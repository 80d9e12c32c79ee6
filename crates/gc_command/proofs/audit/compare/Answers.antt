use Rattle.gc_command.proofs.Names.{Result, Ok, Err, IfOk, IfOk-weaker, garbled-HasLabels, garbled-IsComparison}
use Rattle.gc_half.specs.Comparing.{HasLabels, IsComparison}
use Rattle.gc_command.proofs.audit.compare.Goals as goal

pub returns-clause-labels : goal.returns-clause-labels
returns-clause-labels g c =
    let circuit = c.args.circuit.now in let seed = c.args.seed.now in
    IfOk-weaker c.garble_and_compare.result _ (λ made. HasLabels circuit seed made.0)
    (λ made is. garbled-HasLabels circuit seed c.law_lawful.ensures made.0 is)
    c.garble_and_compare.ensures.garbled

-- what follows from two facts of a value, if there is one
from_both : {T E : Type 0} (r : Result T E) (P Q R : T → Type 0)
    → ((x : T) → P x → Q x → R x) → IfOk r P → IfOk r Q → IfOk r R
from_both (Ok x) P Q R follows p q = follows x p q
from_both (Err e) P Q R follows p q = tt

pub returns-clause-compared : goal.returns-clause-compared
returns-clause-compared g c =
    let circuit = c.args.circuit.now in let seed = c.args.seed.now in
    let given = c.args.given.items in
    from_both c.garble_and_compare.result _ _ (λ made. IsComparison circuit seed given made.1)
    (λ made garbled is.
    garbled-IsComparison circuit seed c.law_lawful.ensures made.0 garbled given made.1 is)
    c.garble_and_compare.ensures.garbled c.garble_and_compare.ensures.compared
