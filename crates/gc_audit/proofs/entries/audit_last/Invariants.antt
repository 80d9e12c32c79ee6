use Rattle.gc_audit.proofs.Names.{◌≡◌, take, entry_pairs_of}
use Rattle.gc_audit.proofs.entries.audit_last.Given as goal

abbrev pub invariant-loop-output : goal.invariant-loop-output
invariant-loop-output g l =
    take l.output l.entries ≡ take l.output (entry_pairs_of l.of.offset l.of.garbling.now)
