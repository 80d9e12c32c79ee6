-- Going back in a text.
use Rattle.gc_tokens.proofs.Names.{◌≡◌, ℕ, zero, suc, ◌+◌, ◌-◌, ◌<◌, ◌≤◌, ◌==◌, ◌++◌, List, [], ◌∷◌, length, length-append, take, drop, fold, slice_index, Bool, true, false, inl, inr, refl, ap, arith, All, append_assoc, append-nil, take-append-drop, if◌then◌else◌, common_steps, cases_Bool, take_more, get_or-take, length-drop, slice_split, is_blank, tokens}
use Rattle.std.proofs.Math.Seq.{take-length}
use Rattle.std.proofs.lemmas.List.Sums.{fold-append}
use Rattle.std.proofs.lemmas.List.Splits.{slice_split-cons_yes, slice_split-cons_no, length-slice_split}
use Rattle.std.proofs.lemmas.List.Elements.{filter-append}
use Rattle.gc_netlist.specs.Place.{Behind, IsSpot, column_after}
use Rattle.gc_tokens.specs.Cursor.{IsBreak, IsCut}
use Rattle.gc_tokens.proofs.TokenLemmas.{NoBlank, tokens-blank, tokens-nil, tokens_join}

-- Parts before a cut and after it.
split_parted : (p : ℕ → Bool) (xs : List ℕ) (y : ℕ) (ys : List ℕ) → p y ≡ true →
    slice_split p (xs ++ y ∷ ys) ≡ slice_split p xs ++ slice_split p ys
split_parted p [] y ys blank = slice_split-cons_yes p y ys blank
split_parted p (x ∷ xs) y ys blank =
    let rest = split_parted p xs y ys blank in
    elim (cases_Bool (p x)) [
      | inl h ↦
          rw (slice_split-cons_yes p x (xs ++ y ∷ ys) h, slice_split-cons_yes p x xs h, rest) refl
      | inr h ↦
          rw (slice_split-cons_no p x (xs ++ y ∷ ys) h, slice_split-cons_no p x xs h, rest)
          (let some = length-slice_split p xs in grind arith)
    ]

-- Tokens before a blank and after it.
tokens_parted : (xs : List ℕ) (y : ℕ) (ys : List ℕ) → is_blank y ≡ true →
    tokens (xs ++ y ∷ ys) ≡ tokens xs ++ tokens ys
unfolding tokens
tokens_parted xs y ys blank = rw (split_parted is_blank xs y ys blank, filter-append) refl

-- A blank at the end of some bytes.
tokens_shorter : (xs : List ℕ) (y : ℕ) → is_blank y ≡ true → tokens (xs ++ y ∷ []) ≡ tokens xs
tokens_shorter xs y blank = rw (tokens_parted xs y [] blank, tokens-nil, append-nil) refl

last_byte : (xs : List ℕ) → 0 < length xs →
    xs ≡ take (length xs - 1) xs ++ slice_index xs (length xs - 1) ∷ []
last_byte xs some =
    let one : length xs - 1 + 1 ≡ length xs = omega arith in
    rw (one, take-length) at (take_more xs (length xs - 1) 0 (omega arith))

tokens_behind : (xs rest : List ℕ) → 0 < length xs →
    is_blank (slice_index xs (length xs - 1)) ≡ true →
    tokens (xs ++ rest) ≡ tokens xs ++ tokens rest
tokens_behind xs rest some blank =
    let front : List ℕ = take (length xs - 1) xs in
    let last : ℕ = slice_index xs (length xs - 1) in
    let cut = tokens_parted front last rest blank in
    rw (last_byte xs some, append_assoc, cut, tokens_shorter front last blank) refl

-- Tokens before a place where none goes on, and after it.
pub tokens_cut : (before rest : List ℕ) → IsBreak before rest →
    tokens (before ++ rest) ≡ tokens before ++ tokens rest
tokens_cut before [] h = rw (append-nil, tokens-nil, append-nil) refl
tokens_cut before (y ∷ ys) (inl h) =
    let blank = h (omega arith) in
    rw (tokens_parted before y ys blank, tokens-blank y ys blank) refl
tokens_cut [] (y ∷ ys) (inr h) = rw tokens-nil refl
tokens_cut (b ∷ bs) (y ∷ ys) (inr h) =
    tokens_behind (b ∷ bs) (y ∷ ys) (omega arith) (h (omega arith))

-- One blank less.
pub blank_less : (text : List ℕ) (i : ℕ) → 0 < i → i ≤ length text →
    is_blank (slice_index text (i - 1)) ≡ true → tokens (take i text) ≡ tokens text →
    tokens (take (i - 1) text) ≡ tokens text
blank_less text i some fits blank so_far =
    let one : i ≡ i - 1 + 1 = omega arith in
    let shorter = tokens_shorter (take (i - 1) text) (slice_index text (i - 1)) blank in
    rw (one, take_more text (i - 1) 0 (omega arith), shorter) at so_far

-- The last token of a text whose last byte is in it.
pub last_run : (xs : List ℕ) (s : ℕ) → s < length xs → NoBlank (drop s xs) →
    (0 < s → is_blank (slice_index xs (s - 1)) ≡ true) →
    tokens xs ≡ tokens (take s xs) ++ drop s xs ∷ []
last_run xs s within none ends =
    let cut = tokens_cut (take s xs) (drop s xs) (inr (λ some.
    let any : 0 < s = grind (arith, common_steps, some) in
    let same : slice_index (take s xs) (length (take s xs) - 1) ≡ slice_index xs (s - 1) =
    grind (arith, common_steps) in
    rw same (ends any))) in
    let last = tokens_join (drop s xs) [] (grind (arith, common_steps)) none
    (λ more. absurd (omega arith)) in
    rw (take-append-drop, rw (append-nil, tokens-nil) at last) at cut

pub take_take : {X : Type 0} (n m : ℕ) (l : List X) → n ≤ m → take n (take m l) ≡ take n l
take_take n m l low = grind (arith, common_steps)

pub front_of : {X : Type 0} (a b : List X) → take (length (a ++ b) - length b) (a ++ b) ≡ a
front_of a b = grind (arith, common_steps)

-- Where some tokens end, some bytes come before.
pub some_before : (text : List ℕ) (end : ℕ) → 0 < length (tokens (take end text)) → 0 < end
some_before text zero some = let none = rw tokens-nil at some in absurd (omega arith)
some_before text (suc end) some = omega arith

-- The column after the beginning of a line.
in_line : (column : ℕ) (run : List ℕ) → All (λ b. (b == 10) ≡ false) run →
    fold (λ n b. if b == 10 then 1 else n + 1) column run ≡ column + length run
in_line column [] all = omega arith
in_line column (b ∷ run) all =
    rw (all 0 0 (omega arith), in_line (column + 1) run (λ k d below. all (suc k) d (omega arith)))
    (omega arith)

-- The column after whole lines and the beginning of another.
pub column_in_line : (before : List ℕ) (start : ℕ) → start ≤ length before →
    All (λ b. (b == 10) ≡ false) (drop start before) →
    (0 < start → slice_index before (start - 1) ≡ 10) →
    length before - start + 1 ≡ column_after before
column_in_line before start fits run ends =
    let f : ℕ → ℕ → ℕ = λ n b. if b == 10 then 1 else n + 1 in
    let line = in_line 1 (drop start before) run in
    let whole = rw (take-append-drop, begun start fits ends, line, length-drop)
    at (fold-append f 1 (take start before) (drop start before)) in
    rw whole (omega arith)
  where
    begun : (n : ℕ) → n ≤ length before → (0 < n → slice_index before (n - 1) ≡ 10) →
        fold (λ m b. if b == 10 then 1 else m + 1) 1 (take n before) ≡ 1
    begun zero low last = refl
    begun (suc n) low last =
        let place : suc n - 1 ≡ n = omega arith in
        let feed : slice_index before n ≡ 10 = rw place at (last (omega arith)) in
        let one : suc n ≡ n + 1 = omega arith in
        rw (one, take_more before n 0 (omega arith), fold-append, feed) refl

-- What comes before a cursor.
pub cut_parted : (text rest front : List ℕ) → IsCut text rest →
    front ≡ take (length text - length rest) text → tokens text ≡ tokens front ++ tokens rest
cut_parted text rest front cut is =
    let same = rw (cut.whole, front_of cut.before rest) at is in
    rw (cut.whole, same) (tokens_cut cut.before rest cut.between)

-- The end of the last token before it.
pub end_spot : (text front : List ℕ) (left : List (List ℕ)) (e : ℕ) →
    front ≡ take (length front) text → length front ≤ length text →
    tokens text ≡ tokens front ++ left → e ≤ length front → tokens (take e front) ≡ tokens front →
    (0 < e → is_blank (slice_index front (e - 1)) ≡ false) → length left < length (tokens text) →
    IsSpot text (Behind (length (tokens text) - length left)) e
end_spot text front left e is within parted low same ends more =
    let all = rw length-append at (ap length parted) in
    let some = some_before front e (rw same (omega arith)) in
    let shorter = rw take_take at (ap (take e) is) in
    let below : e - 1 < length front = omega arith in
    let byte = rw get_or-take at (ap (λ l. slice_index l (e - 1)) is) in (
      rw (← shorter, same, parted, front_of (tokens front) left) refl,
      some,
      omega arith,
      rw (← byte) (ends some),
    )
