use Rattle.gc_circuit.proofs.CheckLemmas.{check_in_range, marked_more}
use Rattle.gc_circuit.proofs.gates.Gates.push.Goals as goal

pub returns-clause-marked : goal.returns-clause-marked
returns-clause-marked g c = λ wires inputs.
    marked_more wires inputs _ _ _ _ _ _ _ (check_in_range _ _ _ c.requires.passes)
    c.in_ok-push.ensures.items c.is_and.ensures c.from.ensures
