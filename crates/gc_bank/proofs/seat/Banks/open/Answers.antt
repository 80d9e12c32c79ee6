use Rattle.gc_bank.proofs.Names.{List, ap, ◌∙◌, sym, arith, slice_get-get_or, Key, JobParts}
use Rattle.gc_bank.proofs.seat.Banks.open.Goals as goal

pub invariant_of-banks-clause-about : goal.invariant_of-banks-clause-about
invariant_of-banks-clause-about g c =
    ap (λ (k : Key (List JobParts)). k.about) c.in_ok-table.ensures.0 ∙ c.in_ok-series_of.ensures

pub invariant_of-banks-clause-circuit : goal.invariant_of-banks-clause-circuit
invariant_of-banks-clause-circuit g c = λ r job there.
    let here = c.circuit-circuit.ensures.circuit
    ∙ ap (λ (j : JobParts). j.circuit) c.index-jobs-0.is in
    let one = slice_get-get_or c.args.jobs.now 0 c.index-jobs-0.result
    (omega (arith, c.requires.jobs.0)) in
    c.requires.circuit r 0 job _ there one ∙ sym here ∙ sym c.in_ok-wiring.ensures
