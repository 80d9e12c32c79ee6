use Rattle.gc_command.proofs.Names.{◌≤◌, ◌-◌, Bool, true, false, get_or, length, take, drop, arith, length-take, length-drop}
use mir.Val.{bool_byte}
use Rattle.gc_command.proofs.HexTextLemmas.{bits_number-within}
use Rattle.gc_command.proofs.value_form.+packed_byte.Goals as goal

bool_byte-le : (b : Bool) → bool_byte b ≤ 1
bool_byte-le true = omega arith
bool_byte-le false = omega arith

pub overflow_mul-result : goal.overflow_mul-result
overflow_mul-result d c =
    let bits = c.args.bits.now in
    let others = take (length bits - 1) (drop 1 bits) in
    let below = bits_number-within others 7
    (omega (arith, length-take (length bits - 1) (drop 1 bits), length-drop 1 bits)) in
    record { fits = omega (arith, c.packed_byte.ensures, below) }

pub overflow_add-result : goal.overflow_add-result
overflow_add-result d c =
    let bits = c.args.bits.now in
    let others = take (length bits - 1) (drop 1 bits) in
    let below = bits_number-within others 7
    (omega (arith, length-take (length bits - 1) (drop 1 bits), length-drop 1 bits)) in
    record {
      fits = omega (
        arith,
        c.packed_byte.ensures,
        below,
        c.from.ensures,
        bool_byte-le
            (get_or bits 0 false),
      );
    }
