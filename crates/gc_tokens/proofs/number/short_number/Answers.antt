use Rattle.gc_tokens.proofs.Names.{ℕ, ◌+◌, ◌*◌, ◌^◌, ◌<◌, ◌≤◌, length, get_or, true, sym, ◌∙◌, arith, common_steps}
use Rattle.std.proofs.Math.Nat.{pow-le-pow_right}
use Rattle.gc_tokens.proofs.NumberLemmas.{digit_most, value_more, digits_more, number_read}
use Rattle.gc_tokens.proofs.number.short_number.Goals as goal

-- at the most eight digits
short_value : (value i : ℕ) → value < 10 ^ i → i < 9 → value < 10 ^ 8
short_value value i small few =
    let ten : 0 < 10 = omega arith in
    let below : i ≤ 8 = omega arith in
    let most : 10 ^ i ≤ 10 ^ 8 = pow-le-pow_right ten below in
    omega arith

-- one digit more
short_more : (value i digit : ℕ) → value < 10 ^ i → digit ≤ 9 → value * 10 + digit < 10 ^ (i + 1)
short_more value i digit small fits = grind (arith, common_steps)

pub returns-then-is_blank : goal.returns-then-is_blank
returns-then-is_blank c =
    let blank = sym c.is_blank.ensures ∙ c.if-is_blank.true in (
      omega arith,
      number_read c.args.text.now c.loop-i.i c.loop-i.value (omega arith) (omega arith)
          c.loop-i.invariant.digits c.loop-i.invariant.value (omega arith) (λ _. blank),
      blank,
    )

pub loop-i-preserved : goal.loop-i-preserved
loop-i-preserved c =
    let digit = sym c.is_ascii_digit.ensures.value ∙ c.if-not-is_ascii_digit.false in
    let within : c.loop-i.i < length c.args.text.now = omega arith in
    let more = value_more c.args.text.now c.loop-i.i within in
    let most = digit_most (get_or c.args.text.now c.loop-i.i 0) digit in
    let small = short_more _ _ c.from.result c.loop-i.invariant.small (omega arith) in
    record {
      value = omega arith;
      small = small;
      fits = short_value _ _ small;
      digits = digits_more c.args.text.now c.loop-i.i true within c.loop-i.invariant.digits digit;
    }
