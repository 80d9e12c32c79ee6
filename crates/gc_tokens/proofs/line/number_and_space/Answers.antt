use Rattle.gc_tokens.proofs.Names.{◌≡◌, ℕ, ◌+◌, ◌-◌, ◌%◌, ◌<◌, ◌≤◌, List, length, drop, slice_index, true, ap, ◌∙◌, w64, arith, take_rest, length-drop, get_or-drop, drop-drop, is_blank}
use Rattle.std.specs.Int.{trailing_zeros}
use Rattle.std.proofs.lemmas.Nat.{trailing_le}
use Rattle.gc_tokens.proofs.TokenLemmas.{past_blank}
use Rattle.gc_tokens.proofs.CutLemmas.{keeps_behind}
use Rattle.gc_tokens.proofs.NumberLemmas.{number_read}
use Rattle.gc_tokens.proofs.DigitLemmas.{lowest_stop, all_digits}
use Rattle.gc_tokens.proofs.line.number_and_space.Goals as goal

pub digits_value-value-requires-clause-digits : goal.digits_value-value-requires-clause-digits
digits_value-value-requires-clause-digits c i below =
    let line = c.args.line.now in
    let start = c.args.start in
    let low : trailing_zeros w64 c.args.stops ≤ 64 = trailing_le 64 c.args.stops in
    let stop = lowest_stop c.args.stops c.ranges.stops.fits (omega (arith, low)) in
    rw (take_rest line start, get_or-drop start line i 0) (c.requires.digits (start + i)
    (omega arith) (omega (arith, low)) (stop.clear (start + i) (omega (arith, low))))

pub returns : goal.returns
returns c =
    let line = c.args.line.now in
    let start = c.args.start in
    let end : ℕ = trailing_zeros w64 c.args.stops in
    let low : end ≤ 64 = trailing_le 64 c.args.stops in
    let text : List ℕ = drop start line in
    let n : ℕ = (end + (18446744073709551616 - (start + 1))) % 18446744073709551616 + 1 in
    let place : start + n ≡ end = omega (arith, low) in
    let stop = lowest_stop c.args.stops c.ranges.stops.fits (omega arith) in
    let within : n < length text = rw length-drop (omega arith) in
    let blank : is_blank (slice_index text n) ≡ true =
    rw (get_or-drop start line n 0, place) (ap is_blank c.if-line-end-ne32.false) in
    let digits = all_digits text n (omega (arith, within)) (λ i below.
    rw (get_or-drop start line i 0) (c.requires.digits (start + i) (omega arith) (omega arith)
    (stop.clear (start + i) (omega arith)))) in
    let value = rw (take_rest line start) at c.digits_value-value.ensures in
    let read = number_read text n c.digits_value-value.result (omega arith) (omega (arith, within))
    digits value c.digits_value-value.type_inv (λ _. blank) in
    let next : start + (n + 1) ≡ end + 1 = omega arith in
    let behind : drop (n + 1) text ≡ drop (end + 1) line =
    drop-drop (n + 1) start line ∙ ap (λ k. drop k line) next in (
      omega arith,
      rw (← behind, ← past_blank text n within blank) read,
      rw (← behind) (keeps_behind text n within blank),
      λ i above low clear.
          c.requires.digits i (omega arith) low (stop.later i (omega arith) clear),
    )
