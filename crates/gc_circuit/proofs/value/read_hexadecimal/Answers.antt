use Rattle.gc_circuit.proofs.Names.{◌≡◌, ◌*◌, ◌<◌, ◌&&◌, Bool, length, ◌∙◌, ap, sym, inl, inr, arith, min, cases_Bool, nat_tests, take_all, bytes_for}
use Rattle.gc_circuit.proofs.ValueLemmas.{bits_of_byte_more, digits_more, hexadecimal_ok, rest_zero_more, spare_in_byte}
use Rattle.gc_circuit.proofs.value.read_hexadecimal.Goals as goal

pub loop-k-preserved : goal.loop-k-preserved
loop-k-preserved g c =
    let digits = c.args.digits.now in
    let n = c.args.width in
    let k = c.loop-k.k in
    let used = c.min-used.ensures in
    let byte = c.byte_of-byte.ensures in
    let is = c.from.ensures ∙ byte.byte in
    let before = c.loop-k.invariant in
    let inside : 8 * k < n = omega arith in
    record {
      digits = rw (digits_more digits k (omega arith), before.digits)
          (sym (ap (λ (b : Bool). c.loop-k.are_digits && b) byte.digits));
      bits = bits_of_byte_more digits n k _ _ _ _ inside used byte.byte before.bits
          c.in_ok-push_bits.ensures.ok;
      unused = λ none. rest_zero_more digits n k _ c.from.result inside used is
          (grind (arith, nat_tests)) (before.unused (grind arith));
      spare = λ some. elim (cases_Bool c.loop-k.has_spare_bit) [
        | inl already ↦ before.spare already
        | inr new ↦
            (spare_in_byte digits n k c.min-used.result c.from.result inside (omega arith)
            used is (omega arith) (λ zero. grind (arith, nat_tests))).1
      ];
    }

pub returns-else-has_spare_bit-clause-ok : goal.returns-else-has_spare_bit-clause-ok
returns-else-has_spare_bit-clause-ok g c =
    let digits = c.args.digits.now in
    let n = c.args.width in
    let k = c.loop-k.k in
    let done : k ≡ bytes_for n = omega arith in
    let long : length digits ≡ 2 * bytes_for n = omega arith in
    let whole : min (8 * k) n ≡ n = omega arith in
    let all = rw (take_all (2 * k) digits (omega arith)) at c.loop-k.invariant.digits in
    hexadecimal_ok digits n long (all ∙ grind arith) _
    (λ i from below. c.loop-k.invariant.unused c.if-has_spare_bit.false i from (omega arith))
    (rw whole at c.loop-k.invariant.bits)
