use Rattle.gc_audit.proofs.Names.{◌≡◌, take}
use Rattle.gc_audit.proofs.rows.first_mismatch.Given as goal

abbrev pub invariant-loop-place : goal.invariant-loop-place
invariant-loop-place l = take l.place l.filed ≡ take l.place l.garbled
