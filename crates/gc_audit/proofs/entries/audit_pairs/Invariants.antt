use Rattle.gc_audit.proofs.Names.{◌≡◌, ◌*◌, take, entry_pairs_of}
use Rattle.gc_audit.proofs.entries.audit_pairs.Given as goal

abbrev pub invariant-loop-k : goal.invariant-loop-k
invariant-loop-k g l =
    take (4 * l.k) l.entries ≡ take (4 * l.k) (entry_pairs_of l.of.offset l.of.garbling.now)
