use Rattle.gc_audit.proofs.Names.{◌≡◌, ◌+◌, take, entry_pairs_of}
use Rattle.gc_audit.proofs.entries.audit_four.Given as goal

abbrev pub invariant-loop-i : goal.invariant-loop-i
invariant-loop-i g l =
    take (l.first + l.i) l.entries
    ≡ take (l.first + l.i) (entry_pairs_of l.of.offset l.of.garbling.now)
