use Rattle.gc_command.proofs.Names.{◌≡◌, ◌++◌, ◌∷◌, [], sym, ap, ap₂, ◌∙◌, append_assoc, arith, nat_tests, append-nil, encode_lower, bits_number, packed}
use Rattle.gc_command.proofs.HexTextLemmas.{encode_lower-more, encode_lower-none, first_eight, packed-more, packed-none}
use Rattle.gc_command.proofs.value_form.push_hexadecimal.Goals as goal

pub loop-left-preserved : goal.loop-left-preserved
loop-left-preserved g c =
    let left = c.loop-left.left.now in
    let cut = first_eight left c.min.result c.min.ensures in
    let byte = c.packed_byte.result in
    let rest = encode_lower (packed c.split_at.result.1.now) in
    let digits : encode_lower (packed left) ≡ encode_lower (byte ∷ []) ++ rest =
    ap encode_lower (packed-more left (grind (arith, nat_tests))
    ∙ ap₂ (λ b l. b ∷ packed l)
    (sym (c.packed_byte.ensures ∙ ap bits_number (c.split_at.ensures.front ∙ cut.0)))
    (sym (c.split_at.ensures.back ∙ cut.1)))
    ∙ encode_lower-more byte (packed c.split_at.result.1.now) in
    ap (λ l. l ++ rest) c.in_ok-push_byte.ensures
    ∙ append_assoc c.loop-left.line.items (encode_lower (byte ∷ [])) rest
    ∙ ap (λ l. c.loop-left.line.items ++ l) (sym digits)
    ∙ c.loop-left.invariant

pub returns : goal.returns
returns g c =
    let none = packed-none c.loop-left.left.now (grind (arith, nat_tests)) in
    sym (append-nil c.loop-left.line.items)
    ∙ ap (λ l. c.loop-left.line.items ++ l) (sym (ap encode_lower none ∙ encode_lower-none))
    ∙ c.loop-left.invariant
