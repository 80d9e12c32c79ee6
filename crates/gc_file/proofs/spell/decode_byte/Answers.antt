use Rattle.gc_file.proofs.WriterNames.{◌≡◌, suc, ◌<◌, ◌-◌, ◌*◌, length-take, length-drop, take, drop, ap, sym, arith, drop_all, decode_bits_of, bits_number, bool_byte-le, ord_min-nat, bits_number-later, bits_number-last, length-decode_bits}
use Rattle.gc_file.proofs.spell.decode_byte.Goals as goal

pub overflow_mul-byte : goal.overflow_mul-byte
overflow_mul-byte g c = record { fits = grind (arith, bits_number-later) }

pub overflow_add-byte : goal.overflow_add-byte
overflow_add-byte g c = record { fits = grind (arith, bits_number-later, bool_byte-le) }

pub loop-i-init : goal.loop-i-init
loop-i-init g c =
    let bits = decode_bits_of c.args.garbling.now in let first = 8 * c.args.k in
    let least = ord_min-nat 8 (c.outputs-outputs.result - first) in
    let count = length-decode_bits c.args.garbling.now c.outputs-outputs.ensures.bound in
    let end = drop_all c.min-count.result (take 8 (drop first bits))
    (omega (arith, length-take 8 (drop first bits), length-drop first bits)) in
    (omega arith, sym (ap bits_number end))

pub loop-i-preserved : goal.loop-i-preserved
loop-i-preserved g c =
    let bits = decode_bits_of c.args.garbling.now in let i = c.loop-i.i - 1 in
    let low : i < 8 = omega (arith, ord_min-nat 8 (c.outputs-outputs.result - 8 * c.args.k)) in
    let next : suc i ≡ c.loop-i.i = omega arith in
    let bit = c.decode_bit in
    let last = rw next at (bits_number-last bits (8 * c.args.k) i bit.result bit.ensures low) in
    (omega arith, omega (arith, last))

pub returns : goal.returns
returns g c = let none : c.loop-i.i ≡ 0 = omega arith in rw none at c.loop-i.invariant.1
