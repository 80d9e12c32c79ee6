-- Tokens as numbers.
use Rattle.gc_tokens.proofs.Names.{◌≡◌, ℕ, ◌+◌, ◌-◌, ◌*◌, ◌^◌, ◌<◌, ◌≤◌, ◌++◌, List, [], ◌∷◌, length, take, drop, get_or, slice_index, fold, Bool, true, false, Some, None, Ok, Err, refl, ◌∙◌, arith, take-append-drop, list_all, common_steps, take_more, nat_tests, tokens, is_blank, is_digit, value_of, number_of, number_at}
use Rattle.std.proofs.lemmas.List.Sums.{fold-append}
use Rattle.std.proofs.lemmas.List.Folds.{list_all-append, list_all_more, list_all_at}
use Rattle.gc_netlist.specs.declared.fault.ReadFault.TheVariants.{BadNumber}
use Rattle.gc_tokens.proofs.TokenLemmas.{NoBlank, tokens_begin, tokens_take}

pub value_none : value_of [] ≡ 0
unfolding value_of
value_none = refl

pub digit_most : (b : ℕ) → is_digit b ≡ true → b ≤ 57
digit_most b h = grind (arith, nat_tests)

-- one more byte
pub value_more : (t : List ℕ) (i : ℕ) → i < length t →
    value_of (take (i + 1) t) ≡ value_of (take i t) * 10 + (get_or t i 0 - 48)
unfolding value_of
value_more t i h = rw (take_more t i 0 h, fold-append) refl

pub digits_more : (t : List ℕ) (i : ℕ) (b : Bool) → i < length t →
    list_all is_digit (take i t) ≡ true → is_digit (get_or t i 0) ≡ b →
    list_all is_digit (take (i + 1) t) ≡ b
digits_more t i b h before here = list_all_more is_digit t i 0 h ∙ rw (before, here) refl

-- digits are no blanks
pub digits_no_blank : (t : List ℕ) → list_all is_digit t ≡ true → NoBlank t
digits_no_blank t all k d below = grind (arith, nat_tests, list_all_at is_digit t k d below)

number_good : (t : List ℕ) → list_all is_digit t ≡ true → value_of t < 2 ^ 32 →
    number_of t ≡ Some (value_of t)
number_good t digits small = grind (arith, nat_tests)

pub bad_digit : (front more : List ℕ) → list_all is_digit front ≡ false →
    number_of (front ++ more) ≡ None
bad_digit front more h = rw (list_all-append is_digit front more, h) refl

fold_grows : (n : ℕ) (t : List ℕ) → n ≤ fold (λ n b. n * 10 + (b - 48)) n t
fold_grows n [] = omega arith
fold_grows n (b ∷ t) = let h = fold_grows (n * 10 + (b - 48)) t in omega (arith, h)

value_grows : (front more : List ℕ) → value_of front ≤ value_of (front ++ more)
unfolding value_of
value_grows front more =
    rw fold-append (fold_grows (fold (λ n b. n * 10 + (b - 48)) 0 front) more)

pub bad_value : (front more : List ℕ) → 2 ^ 32 ≤ value_of front → number_of (front ++ more) ≡ None
bad_value front more h = let grows = value_grows front more in grind (arith, nat_tests)

-- The first n bytes are digits with this value, and a blank or the text's end comes after them.
pub number_read : (text : List ℕ) (n value : ℕ) → 0 < n → n ≤ length text →
    list_all is_digit (take n text) ≡ true → value ≡ value_of (take n text) → value < 2 ^ 32 →
    (n < length text → is_blank (slice_index text n) ≡ true) →
    number_at (tokens text) ≡ Ok (value, tokens (drop n text))
number_read text n value some fits digits is small ends =
    let first = tokens_take n text some fits (digits_no_blank (take n text) digits) ends in
    rw (first, number_good (take n text) digits (omega arith), is) refl

-- The token that is due begins with these bytes, and no such token is a number.
pub number_refused : (text : List ℕ) (k : ℕ) → 0 < k → k ≤ length text → NoBlank (take k text) →
    ((more : List ℕ) → number_of (take k text ++ more) ≡ None) →
    number_at (tokens text) ≡ Err BadNumber
number_refused text k some fits none bad =
    let b = tokens_begin (take k text) (drop k text) (grind (arith, common_steps)) none in
    rw (rw take-append-drop at b.is, bad b.more) refl
