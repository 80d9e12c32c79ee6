use Rattle.gc_circuit.proofs.Names.{inr, err_of}
use Rattle.gc_circuit.proofs.ArrayLemmas.{widths_stop}
use Rattle.gc_circuit.proofs.arrays.copy_widths.Goals as goal

pub returns-in_err-check_limit-clause-fault : goal.returns-in_err-check_limit-clause-fault
returns-in_err-check_limit-clause-fault g c =
    let p = err_of c.from_residual.result c.from_residual.ensures.1 in
    rw (p.1, p.2) (inr (λ rest.
    widths_stop c.args.wires c.args.widths.now rest _ c.in_err-check_limit.ensures.read))
