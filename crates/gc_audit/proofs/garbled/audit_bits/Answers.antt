use Rattle.gc_audit.proofs.Names.{◌<◌, false, length, get_or, arith, rules, slice_get-get_or, decode_bits_of}
use Rattle.gc_audit.proofs.DifferenceLemmas.{same_more}
use Rattle.gc_audit.proofs.garbled.audit_bits.Goals as goal

pub loop-i-preserved : goal.loop-i-preserved
loop-i-preserved g c =
    let bits = c.args.bits.now in let i = c.loop-i.i in
    let within : i < length bits = omega arith in
    same_more bits (decode_bits_of c.args.garbling.now) i (get_or bits i false) c.decode_bit.result
    c.loop-i.invariant (slice_get-get_or bits i false within) c.decode_bit.ensures
    (search rules)
