use Rattle.gc_audit.proofs.Names.{length, arith, and_number-le, and_number-end}
use Rattle.gc_audit.proofs.RowLemmas.{row_found}
use Rattle.gc_audit.proofs.rows.row_difference.Goals as goal

pub overflow_cast-mismatch : goal.overflow_cast-mismatch
overflow_cast-mismatch g c =
    let circuit = c.args.circuit.now in
    omega (
      arith,
      c.law_lawful.ensures.few_gates,
      and_number-le circuit (length circuit.gates),
      and_number-end circuit,
      rw c.in_ok-mismatch.was at c.requires,
    )

pub returns : goal.returns
returns g c = λ filed garbled found.
    row_found c.args.circuit.now filed garbled c.in_ok-mismatch.mismatch
    (rw c.in_ok-mismatch.was at found) c.difference_at.result c.difference_at.ensures.number
    c.difference_at.ensures.gate (rw c.difference_at.ensures.rows c.in_ok-rows.ensures)
