use Rattle.gc_tokens.proofs.Names.{◌≡◌, ◌+◌, ◌*◌, ◌/◌, ◌^◌, ◌<◌, take, arith, value_of}
use Rattle.gc_tokens.proofs.DigitLemmas.{ones_of, joined, value_joined}
use Rattle.gc_tokens.proofs.digits.digits_value.Goals as goal

value : (c : goal.After-word_at-word) →
    let ones = ones_of c.word_at-word.result c.args.len in
    (ones * 10 + ones / 256 < 2 ^ 64) × (joined ones ≡ value_of (take c.args.len c.args.text.now))
value c =
    value_joined c.args.len c.args.text.now c.word_at-word.result c.requires.some c.requires.few
    c.requires.room c.requires.digits c.word_at-word.type_inv c.word_at-word.ensures

pub overflow_mul-pairs : goal.overflow_mul-pairs
overflow_mul-pairs c = let fits = (value c).0 in omega (arith, fits)

pub overflow_add-pairs : goal.overflow_add-pairs
overflow_add-pairs c = let fits = (value c).0 in omega (arith, fits)

pub returns : goal.returns
returns c = (value c).1
