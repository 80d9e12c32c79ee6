-- Words as they are written: the tokens of their lines, and what these spell.
use Rattle.gc_netlist.proofs.CommonNames.{◌≡◌, ℕ, zero, suc, ◌-◌, ◌*◌, ◌/◌, ◌%◌, ◌+◌, ◌<◌, ◌≤◌, ◌^◌, ◌==◌, ◌++◌, inl, inr, List, [], ◌∷◌, map, append_assoc, true, false, Some, None, decimal, refl, ap, ◌∙◌, arith, rules, fold, flat_map, list_all, filter, AllByRecursion, cases_Bool, nat_tests, map-append, is_blank, is_some_run, tokens, is_digit, value_of, number_of, Word, Number, Name, SpellsWord, SpellWords}
use Rattle.std.specs.Fmt.{digits, digits_onto, digit_glyph}
use Rattle.std.proofs.lemmas.Fmt.{digits_decimal, digits_value-decimal}
use Rattle.std.proofs.lemmas.List.Elements.{All-from_recursion}
use Rattle.std.proofs.lemmas.List.Splits.{slice_split_at, slice_split-cons_yes}
use Rattle.std.proofs.lemmas.Str.Parse.{IsNumeralModel, numerals_by_fold}
use Rattle.gc_netlist.specs.Canon.{written, line}
use Rattle.gc_netlist.proofs.SpellingLemmas.{Spell-append}

-- Not empty, and without a blank.
abbrev pub IsRun : List ℕ → Type 0
IsRun t = (is_some_run t ≡ true) × AllByRecursion (λ b. is_blank b ≡ false) t

-- Such a run before a blank is the first token,
tokens-run : (t rest : List ℕ) (b : ℕ) → IsRun t → is_blank b ≡ true
    → tokens (t ++ b ∷ rest) ≡ t ∷ tokens rest
unfolding tokens
tokens-run t rest b run blank =
    ap (filter is_some_run) (slice_split_at is_blank t b rest (All-from_recursion _ t run.1)
    blank) ∙ rw run.0 refl

-- and a blank alone is no token.
tokens-blank : (rest : List ℕ) (b : ℕ) → is_blank b ≡ true → tokens (b ∷ rest) ≡ tokens rest
unfolding tokens
tokens-blank rest b blank = ap (filter is_some_run) (slice_split-cons_yes is_blank b rest blank)

-- The digits of a number are a run.
digits_run : (k n : ℕ) (after : List ℕ) → AllByRecursion (λ b. is_blank b ≡ false) after →
    IsRun (digits_onto (suc k) 10 false n after)
digits_run zero n after run = grind (arith, nat_tests)
digits_run (suc k) n after run =
    let solid : is_blank (digit_glyph false (n % 10)) ≡ false = grind (arith, nat_tests) in
    let more : IsRun (digit_glyph false (n % 10) ∷ after) = (refl, (solid, run)) in
    elim (cases_Bool (n / 10 == 0)) [
      | inl last ↦ rw last more
      | inr next ↦ rw next (digits_run k (n / 10) (digit_glyph false (n % 10) ∷ after) more.1)
    ]

pub decimal_run : (n : ℕ) → IsRun (decimal n)
unfolding digits
decimal_run n = digits_run 63 n [] tt

own_value : IsNumeralModel (λ ds. list_all is_digit ds ≡ true) value_of
unfolding value_of
own_value = numerals_by_fold (λ ds. list_all is_digit ds ≡ true) (record {
  empty = refl;
  parts = λ c cs h. grind (arith, nat_tests);
  more = λ c cs in_range h. grind (arith, nat_tests);
}) (λ n token. fold (λ m b. m * 10 + (b - 48)) n token) (search rules)

-- They spell it where it has 32 bits,
pub number_spelled : (n : ℕ) → n < 2 ^ 32 → number_of (decimal n) ≡ Some n
number_spelled n small =
    let digits : list_all is_digit (decimal n) ≡ true = digits_decimal own_value n (omega arith) in
    let value : value_of (decimal n) ≡ n = digits_value-decimal own_value n (omega arith) in
    grind (arith, nat_tests)

-- and else none.
pub number_too_long : (n : ℕ) → 2 ^ 32 ≤ n → n < 2 ^ 64 → number_of (decimal n) ≡ None
number_too_long n large small =
    let value : value_of (decimal n) ≡ n = digits_value-decimal own_value n small in
    grind (arith, nat_tests)

-- A word that is one token as it is written: a number, or a name that is a run.
abbrev pub IsToken : Word → Type 0
IsToken (Number n) = Unit {0}
IsToken (Name name) = IsRun name

token_run : (w : Word) → IsToken w → IsRun (written w)
token_run (Number n) h = decimal_run n
token_run (Name name) h = h

-- The tokens of a line are its words as they are written,
line_tokens : (words : List Word) (rest : List ℕ) → AllByRecursion IsToken words
    → tokens (line words ++ rest) ≡ map written words ++ tokens rest
line_tokens [] rest h = tokens-blank rest 10 refl
line_tokens (w ∷ []) rest h = rw (append_assoc (written w) (10 ∷ []) rest)
    (tokens-run (written w) rest 10 (token_run w h.0) refl)
line_tokens (w ∷ v ∷ words) rest h =
    let more : List ℕ = line (v ∷ words) in
    ap tokens (simp append_assoc)
    ∙ tokens-run (written w) (more ++ rest) 32 (token_run w h.0) refl
    ∙ ap (λ ts. written w ∷ ts) (line_tokens (v ∷ words) rest h.1)

-- and so are those of several lines.
pub lines_tokens : (lines : List (List Word)) → AllByRecursion (AllByRecursion IsToken) lines
    → tokens (flat_map line lines) ≡ map written (flat_map (λ l. l) lines)
unfolding tokens
lines_tokens [] h = refl
lines_tokens (l ∷ lines) h = rw (map-append written l (flat_map (λ k. k) lines))
    (line_tokens l (flat_map line lines) h.0
    ∙ ap (λ ts. map written l ++ ts) (lines_tokens lines h.1))

-- A word that is spelled as it is written: a number of 32 bits, or a name that is a run.
abbrev pub IsPlain : Word → Type 0
IsPlain (Number n) = n < 2 ^ 32
IsPlain (Name name) = IsRun name

plain_word : (w : Word) → IsPlain w → IsToken w × SpellsWord (written w) w
plain_word (Number n) small = (tt, number_spelled n small)
plain_word (Name name) run = (run, refl)

plain_tokens : (words : List Word) → AllByRecursion IsPlain words → AllByRecursion IsToken words
plain_tokens [] h = tt
plain_tokens (w ∷ words) h = ((plain_word w h.0).0, plain_tokens words h.1)

-- What is written of plain words spells them,
pub words_spelled : (words : List Word) (rest : List (List ℕ)) → AllByRecursion IsPlain words
    → SpellWords (map written words ++ rest) words rest
words_spelled [] rest h = refl
words_spelled (w ∷ words) rest h = ((plain_word w h.0).1, words_spelled words rest h.1)

-- and so do their lines.
pub lines_spelled : (lines : List (List Word)) → AllByRecursion (AllByRecursion IsPlain) lines
    → SpellWords (tokens (flat_map line lines)) (flat_map (λ l. l) lines) []
unfolding tokens
lines_spelled [] h = refl
lines_spelled (l ∷ lines) h =
    let rest : List ℕ = flat_map line lines in
    Spell-append (tokens (line l ++ rest)) (tokens rest) [] l (flat_map (λ k. k) lines)
    (rw (line_tokens l rest (plain_tokens l h.0)) (words_spelled l (tokens rest) h.0))
    (lines_spelled lines h.1)
