use Rattle.gc_circuit.proofs.Names.{inl, inr, refl, arith, err_of}
use Rattle.gc_circuit.proofs.ArrayLemmas.{numbers_read}
use Rattle.gc_circuit.proofs.arrays.next_gate.Goals as goal

pub returns-in-Err-clause-stops : goal.returns-in-Err-clause-stops
returns-in-Err-clause-stops c =
    let e = c.in_gate.ensures in
    rw e.0 (λ rest. (_, inl (c.in-Err.ensures.fault rest, refl, e.1, e.3)))

pub returns-in_err-check_next-clause-stops : goal.returns-in_err-check_next-clause-stops
returns-in_err-check_next-clause-stops c =
    let p = err_of c.from_residual.result c.from_residual.ensures.1 in
    let e = c.in_err-check_next.ensures in
    rw (p.1, p.2) (λ rest.
    let read = numbers_read c.args.numbers (omega arith) (omega arith) (omega arith) (omega arith)
    c.in-Ok.gate rest c.in-Ok.ensures.words in
    (rest, inr (c.in-Ok.gate, read, e.refused, e.at_wire)))
