use Rattle.gc_store.specs.Readers.{IsLinkedFrom}
use Rattle.gc_store.proofs.readers.Readers.of.Given as goal

-- the reads gone through are linked
abbrev pub invariant-loop-read : goal.invariant-loop-read
invariant-loop-read g l = IsLinkedFrom l.circuit l.read l.firsts.items l.nexts.items
