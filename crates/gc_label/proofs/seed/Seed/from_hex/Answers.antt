use Rattle.std.proofs.Common.{◌≡◌, ℕ, ◌+◌, ◌*◌, ◌<◌, ◌≤◌, ◌%◌, ◌&&◌, Bool, true, List, [], length, take, slice_index, Option, Some, None, is_some, unwrap_or, Ok, ap, refl, sym, ◌∙◌, arith}
use Rattle.std.proofs.lemmas.List.{length-set, take_all}
use Rattle.std.specs.List.{list_all}
use Rattle.std.proofs.lemmas.List.Sums.{AllPass-from_list_all, list_all-from_AllPass}
use Rattle.hex.specs.Hex.{digit_or_error, is_hex_digit, hex_digit_value, pair_value, ◌>>=◌}
use Rattle.hex.proofs.HexLemmas.{decode_of-even}
use Rattle.hex.proofs.Pairs.{decode_start, decode_step, decode_done}
use Rattle.gc_circuit.specs.Value.{digit_value}
use Rattle.gc_circuit.proofs.ValueLemmas.{digits_more}
use Rattle.gc_label.proofs.seed.Seed.from_hex.Goals as goal

-- two digits, from their values
pair_of_digits : (high low i : ℕ) → (is_hex_digit high && is_hex_digit low) ≡ true →
    pair_value high low i ≡ Ok (16 * digit_value high + digit_value low)
pair_of_digits high low i both = grind arith

pub loop-i-init : goal.loop-i-init
loop-i-init c = record { long = refl; digits = refl; bytes = λ all. decode_start _ [] }

-- both tests hold
and_true : (a b : Bool) → (a && b) ≡ true → (a ≡ true) × (b ≡ true)
and_true a b h = grind arith

pub loop-i-preserved : goal.loop-i-preserved
loop-i-preserved c =
    let digits = c.as_bytes-digits.result.now in
    let i = c.loop-i.i in
    let before = c.loop-i.invariant in
    let byte = c.byte_of-byte.ensures in
    let fits : 2 * i + 1 < length digits = omega arith in
    record {
      long = length-set _ _ _ ∙ before.long;
      digits = cc (digits_more digits i fits, before.digits, byte.digits);
      bytes = λ all.
          let parts = and_true c.loop-i.are_digits c.byte_of-byte.result.1 all in
          let pair = pair_of_digits (slice_index digits (2 * i)) (slice_index digits (2 * i + 1))
          (2 * i) (sym byte.digits ∙ parts.1) in
          decode_step digits c.loop-i.bytes i c.byte_of-byte.result.0 fits (omega arith)
          (pair ∙ ap Ok (sym byte.byte)) (before.bytes parts.0);
    }

-- all digits of the text, after the last pair
read : (digits : List ℕ) (i : ℕ) (b : Bool) → length digits ≡ 64 → 32 ≤ i →
    list_all is_hex_digit (take (2 * i) digits) ≡ b → list_all is_hex_digit digits ≡ b
read digits i b long done h = rw (take_all (2 * i) digits (omega arith)) at h

pub returns-then-are_digits-clause-accepts : goal.returns-then-are_digits-clause-accepts
returns-then-are_digits-clause-accepts c =
    let same = c.as_bytes-digits.ensures.value in
    let long : length c.args.text.now ≡ 64 = rw same at c.if-digits-ne64.false in
    let all = read c.as_bytes-digits.result.now c.loop-i.i _ c.if-digits-ne64.false
    c.loop-i-test.false c.loop-i.invariant.digits ∙ c.if-are_digits.true in
    (λ ok. (long, AllPass-from_list_all is_hex_digit _ (rw same at all)), λ is. refl)

pub returns-then-are_digits-clause-bytes : goal.returns-then-are_digits-clause-bytes
returns-then-are_digits-clause-bytes c =
    let digits = c.as_bytes-digits.result.now in
    let even : length digits % 2 ≡ 0 = omega arith in
    let done = decode_done digits c.loop-i.bytes c.loop-i.i (omega arith) (omega arith)
    (c.loop-i.invariant.bytes c.if-are_digits.true) in
    rw c.from_bytes.ensures (rw c.as_bytes-digits.ensures.value
    at (decode_of-even digits even ∙ done))

pub returns-else-are_digits-clause-accepts : goal.returns-else-are_digits-clause-accepts
returns-else-are_digits-clause-accepts c =
    let same = c.as_bytes-digits.ensures.value in
    let bad = read c.as_bytes-digits.result.now c.loop-i.i _ c.if-digits-ne64.false
    c.loop-i-test.false c.loop-i.invariant.digits ∙ c.if-are_digits.false in
    (λ ok. cc, λ is. sym (rw same at bad) ∙ list_all-from_AllPass is_hex_digit _ is.1)
