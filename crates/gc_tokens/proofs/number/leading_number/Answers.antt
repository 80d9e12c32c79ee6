use Rattle.gc_tokens.proofs.Names.{◌<◌, nat_tests, ◌≡◌, ◌+◌, length, take, true, false, sym, ◌∙◌, arith}
use Rattle.gc_tokens.proofs.TokenLemmas.{run_more, some_run}
use Rattle.gc_tokens.proofs.NumberLemmas.{value_more, digits_more, digits_no_blank, bad_digit, bad_value, number_read, number_refused}
use Rattle.gc_tokens.proofs.number.leading_number.Goals as goal

pub returns-then-is_blank : goal.returns-then-is_blank
returns-then-is_blank c =
    let blank = sym c.is_blank.ensures ∙ c.if-is_blank.true in (
      omega arith,
      number_read c.args.text.now c.loop-i.i c.loop-i.value
          (some_run c.args.text.now c.loop-i.i (omega arith) c.requires (λ _. blank)) (omega arith)
          c.loop-i.invariant.digits c.loop-i.invariant.value c.loop-i.invariant.small (λ _. blank),
      λ _. blank,
    )

pub returns-else-is_blank : goal.returns-else-is_blank
returns-else-is_blank c =
    let other = sym c.is_ascii_digit.ensures.value ∙ c.if-not-is_ascii_digit.true in
    let none = sym c.is_blank.ensures ∙ c.if-is_blank.false in
    number_refused c.args.text.now (c.loop-i.i + 1) (omega arith) (omega arith)
    (run_more c.args.text.now c.loop-i.i c.loop-i-test.true
    (digits_no_blank (take c.loop-i.i c.args.text.now) c.loop-i.invariant.digits) none)
    (λ rest. bad_digit (take (c.loop-i.i + 1) c.args.text.now) rest
    (digits_more _ _ false c.loop-i-test.true c.loop-i.invariant.digits other))

pub returns-then-value-from : goal.returns-then-value-from
returns-then-value-from c =
    let digit = sym c.is_ascii_digit.ensures.value ∙ c.if-not-is_ascii_digit.false in
    let more = value_more c.args.text.now c.loop-i.i c.loop-i-test.true in
    let digits = digits_more _ _ true c.loop-i-test.true c.loop-i.invariant.digits digit in
    number_refused c.args.text.now (c.loop-i.i + 1) (omega arith) (omega arith)
    (digits_no_blank (take (c.loop-i.i + 1) c.args.text.now) digits)
    (λ rest. bad_value (take (c.loop-i.i + 1) c.args.text.now) rest (omega arith))

pub returns : goal.returns
returns c =
    let whole : length c.args.text.now ≡ c.loop-i.i = omega arith in
    let some : 0 < length c.args.text.now = grind (arith, nat_tests) in
    rw whole (
      omega arith,
      number_read c.args.text.now c.loop-i.i c.loop-i.value (omega arith) (omega arith)
          c.loop-i.invariant.digits c.loop-i.invariant.value c.loop-i.invariant.small
          (λ below. absurd (omega arith)),
      λ below. absurd (omega arith),
    )
