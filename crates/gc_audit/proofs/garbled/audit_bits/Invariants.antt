use Rattle.gc_audit.proofs.Names.{◌≡◌, take, decode_bits_of}
use Rattle.gc_audit.proofs.garbled.audit_bits.Given as goal

abbrev pub invariant-loop-i : goal.invariant-loop-i
invariant-loop-i g l = take l.i l.bits ≡ take l.i (decode_bits_of l.garbling)
