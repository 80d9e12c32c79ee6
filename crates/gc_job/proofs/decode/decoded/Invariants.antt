use Rattle.gc_job.proofs.Names.{◌≡◌, take, decode}
use Rattle.gc_job.proofs.decode.decoded.Given as goal

abbrev pub invariant-loop-i : goal.invariant-loop-i
invariant-loop-i g l = l.bits.items ≡ decode (take l.i l.decode_bits) (take l.i l.labels)
