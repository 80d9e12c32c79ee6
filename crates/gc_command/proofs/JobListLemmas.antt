-- The lines and the words of a list of jobs.
use Rattle.gc_command.proofs.Names.{◌≡◌, ℕ, zero, suc, ◌+◌, ◌<◌, ◌≤◌, ◌==◌, ◌++◌, Bool, true, false, not, List, [], ◌∷◌, All, length, map, filter, take, drop, drop-cons, get_or, refl, sym, ap, arith, slice_split, position_or_len, get_or-map, drop_all, length-drop, length-map, map-append, take_more, is_blank, is_some_run, tokens, tokens-nil, tokens_begin, has_words, IsUtf8, IsCharBoundary, nat_tests, All-cons, All-filter, All-map, All-nil, All-push, All-same, All-weaker, filter_passes}
use Rattle.std.proofs.lemmas.List.Splits.{slice_split_first, slice_split_none}
use Rattle.std.proofs.lemmas.List.Sums.{passes_at_first, fails_before_first}
use Rattle.std.proofs.lemmas.Str.{IsUtf8-take, IsUtf8-drop, IsCharBoundary-after_ascii}
use mathlib.Core.Logic.{dite}
use native.Mathlib.Decide.{dec_le}

-- A byte that is no blank is in a token,
first_word : (b : ℕ) (rest : List ℕ) → is_blank b ≡ false → has_words (tokens (b ∷ rest)) ≡ true
first_word b rest other =
    ap has_words (tokens_begin (b ∷ []) rest (omega arith)
    (All-push (λ x. is_blank x ≡ false) [] b (λ k d below. absurd (omega arith)) other)).is

pub some_word : (line : List ℕ) (i : ℕ) → i < length line → is_blank (get_or line i 0) ≡ false
    → tokens (drop i line) ≡ tokens line → has_words (tokens line) ≡ true
some_word line i within other same =
    rw (← same, drop-cons line i 0 within) (first_word (get_or line i 0) (drop (suc i) line) other)

-- and where there is none, there is no token.
pub no_word : (line : List ℕ) (i : ℕ) → length line ≤ i → tokens (drop i line) ≡ tokens line
    → has_words (tokens line) ≡ false
no_word line i past same = rw (← same, drop_all i line past, tokens-nil) refl

some_words : (words : List (List ℕ)) → has_words words ≡ true → 0 < length words
some_words words e = grind arith

-- Each line that is listed has a word.
pub all_have_words : (lines : List (List ℕ)) → All (λ words. 0 < length words)
    (map tokens (filter (λ line. has_words (tokens line)) lines))
all_have_words lines =
    let some = filter (λ line. has_words (tokens line)) lines in
    All-map (λ words. 0 < length words) tokens some
    (All-weaker (λ line. has_words (tokens line) ≡ true) (λ line. 0 < length (tokens line))
    (λ line has. some_words (tokens line) has) some (filter_passes _ lines))

-- A text that is UTF-8, cut at ASCII bytes, is UTF-8 in each part.
utf8_parts : (p : ℕ → Bool) → ((b : ℕ) → p b ≡ true → b < 128) → (n : ℕ) (bs : List ℕ)
    → length bs < n → IsUtf8 bs → All IsUtf8 (slice_split p bs)
utf8_parts p ascii zero bs short utf8 = absurd (omega (arith, short))
utf8_parts p ascii (suc n) bs short utf8 =
    let i = position_or_len p bs in
    dite (dec_le (suc i) (length bs))
    (λ room.
    let here : i < length bs = omega (arith, room) in
    let byte : get_or bs i 0 < 128 = ascii (get_or bs i 0) (passes_at_first p bs 0 here) in
    let starts : IsCharBoundary bs i =
    (omega arith, λ inside high. absurd (omega (arith, byte, high))) in
    let rest : IsUtf8 (drop (i + 1) bs) =
    IsUtf8-drop bs (i + 1) utf8 (IsCharBoundary-after_ascii bs i utf8 here byte) in
    All-same IsUtf8 _ _ (slice_split_first p bs 0 here)
    (All-cons IsUtf8 (take i bs) _ (IsUtf8-take bs i utf8 starts)
    (utf8_parts p ascii n (drop (i + 1) bs) (omega (arith, length-drop (i + 1) bs)) rest)))
    (λ none.
    All-same IsUtf8 _ _
    (slice_split_none p bs (λ j d within. fails_before_first p bs j d (omega arith)))
    (All-cons IsUtf8 bs [] utf8 (All-nil IsUtf8)))

blank_is_ascii : (b : ℕ) → is_blank b ≡ true → b < 128
blank_is_ascii b blank = grind (arith, nat_tests)

-- The tokens of a text that is UTF-8 are UTF-8.
utf8_tokens : (line : List ℕ) → IsUtf8 line → All IsUtf8 (tokens line)
unfolding tokens
utf8_tokens line utf8 =
    All-filter is_some_run IsUtf8 _
    (utf8_parts is_blank blank_is_ascii (length line + 1) line (omega arith) utf8)

-- A part that is not empty is a run.
pub is_run : (part : List ℕ) → not (length part == 0) ≡ is_some_run part
is_run [] = refl
is_run (x ∷ part) = grind (arith, nat_tests)

-- One word more of what references show,
pub word_more : {X : Type 0} (v : X → List ℕ) (words : List X) (word : X) (i : ℕ)
    (parts : List X) (d : X) → i < length parts
    → v word ≡ v (get_or parts i d) → map v words ≡ take i (map v parts)
    → map v (words ++ word ∷ []) ≡ take (i + 1) (map v parts)
word_more v words word i parts d within same before =
    rw (map-append v words (word ∷ []), before, same, ← get_or-map v parts i d)
    (sym (take_more (map v parts) i (v d) (omega (arith, length-map parts v))))

-- and a token of a text that is UTF-8.
pub utf8_token : {X : Type 0} (v : X → List ℕ) (line : List ℕ) (parts : List X) (i : ℕ) (d : X)
    → IsUtf8 line → map v parts ≡ tokens line → i < length parts → IsUtf8 (v (get_or parts i d))
utf8_token v line parts i d utf8 are within =
    rw (← get_or-map v parts i d, are)
    (utf8_tokens line utf8 i (v d) (omega (arith, length-map parts v, ap length are)))
