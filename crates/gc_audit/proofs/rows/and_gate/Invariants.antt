use Rattle.gc_audit.proofs.Names.{◌≡◌, ◌≤◌, and_number}
use Rattle.gc_audit.proofs.rows.and_gate.Given as goal

abbrev pub invariant-loop-i : goal.invariant-loop-i
invariant-loop-i g l = record {
  counted : l.ands ≡ and_number l.circuit l.i;
  few : l.ands ≤ l.number;
}
