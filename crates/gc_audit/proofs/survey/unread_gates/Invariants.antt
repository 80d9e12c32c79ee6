use Rattle.gc_audit.proofs.Names.{◌≡◌, count_by, take, is_unread}
use Rattle.gc_audit.proofs.survey.unread_gates.Given as goal

abbrev pub invariant-loop-i : goal.invariant-loop-i
invariant-loop-i g l = l.unread ≡ count_by (is_unread l.circuit) (take l.i l.circuit.gates)
