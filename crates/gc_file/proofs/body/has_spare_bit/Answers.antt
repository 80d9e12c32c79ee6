use Rattle.gc_file.proofs.ReaderNames.{◌-◌, ◌%◌, ◌^◌, ◌<◌, length, slice_index, arith, nat_tests, div-eq_of_lt, div-add-mod', mod-lt, one-le-pow}
use Rattle.gc_file.proofs.body.has_spare_bit.Goals as goal

pub returns-then-outputs-ne0 : goal.returns-then-outputs-ne0
returns-then-outputs-ne0 c =
    let bytes = c.args.decode_bytes.now in let bits = c.args.outputs % 8 in
    let last = slice_index bytes (length bytes - 1) in
    let part = c.if-outputs-ne0.true in
    let some : 0 < 2 ^ bits = one-le-pow bits 2 (omega arith) in
    let split = div-add-mod' last (2 ^ bits) in
    let less = mod-lt last some in (
      (λ is. record { not_full = omega arith; bit = grind (arith, nat_tests, div-eq_of_lt) }),
      (λ spare. let bit = spare.bit in grind (arith, nat_tests)),
    )
