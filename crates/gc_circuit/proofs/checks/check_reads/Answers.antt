use Rattle.gc_circuit.proofs.Names.{inl, inr, refl, err_of, check_reads}
use Rattle.gc_circuit.proofs.checks.check_reads.Goals as goal

pub returns-in_err-check_read-in-Xor : goal.returns-in_err-check_read-in-Xor
unfolding check_reads
returns-in_err-check_read-in-Xor c =
    let p = err_of c.from_residual.result c.from_residual.ensures.1 in
    elim c.in-Xor.is [
      | inl xor ↦ rw (p.1, p.2, xor, ← c.in_err-check_read-in-Xor.ensures) refl
      | inr and ↦ rw (p.1, p.2, and, ← c.in_err-check_read-in-Xor.ensures) refl
    ]

pub returns-in_ok-check_read-in-Xor : goal.returns-in_ok-check_read-in-Xor
unfolding check_reads
returns-in_ok-check_read-in-Xor c = elim c.in-Xor.is [
  | inl xor ↦ rw (xor, ← c.in_ok-check_read-in-Xor.ensures) c.check_read-in-Xor-2.ensures
  | inr and ↦ rw (and, ← c.in_ok-check_read-in-Xor.ensures) c.check_read-in-Xor-2.ensures
]
