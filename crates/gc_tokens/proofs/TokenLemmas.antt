-- The tokens of a text, one after another.
use Rattle.gc_tokens.proofs.Names.{◌≡◌, ℕ, zero, suc, ◌+◌, ◌<◌, ◌≤◌, ◌++◌, Err, List, [], ◌∷◌, length, filter, take, drop, get_or, slice_index, true, false, refl, sym, ap, ◌∙◌, arith, All, common_steps, add-one, inl, inr, append-nil, take-append-drop, drop-cons, append_assoc, take_more, both_ways, cases_Bool, is_blank, is_some_run, tokens, check_end}
use Rattle.std.proofs.lemmas.List.Elements.{All-push, All-from_recursion}
use Rattle.std.proofs.lemmas.List.Splits.{slice_split-cons_yes, slice_split_none, slice_split_at}
use Rattle.gc_netlist.specs.declared.fault.ReadFault.TheVariants.{TrailingTokens}

-- a blank in front
pub tokens-blank : (b : ℕ) (text : List ℕ) → is_blank b ≡ true → tokens (b ∷ text) ≡ tokens text
unfolding tokens
tokens-blank b text h = ap (filter is_some_run) (slice_split-cons_yes is_blank b text h)

pub tokens-nil : tokens [] ≡ []
unfolding tokens
tokens-nil = refl

pub tokens_empty : (text : List ℕ) → length text ≡ 0 → tokens text ≡ []
tokens_empty [] none = tokens-nil
tokens_empty (b ∷ text) none = absurd (omega arith)

-- no byte is a blank
abbrev pub NoBlank : List ℕ → Type 0
NoBlank = All (λ b. is_blank b ≡ false)

-- bytes that are no blanks, at the end or before a blank
pub tokens_join : (front rest : List ℕ) → 0 < length front → NoBlank front →
    (0 < length rest → is_blank (slice_index rest 0) ≡ true) →
    tokens (front ++ rest) ≡ front ∷ tokens rest
unfolding tokens
tokens_join [] rest some none ends = absurd (omega arith)
tokens_join (b ∷ t) [] some none ends =
    ap tokens (append-nil (b ∷ t))
    ∙ ap (filter is_some_run) (slice_split_none is_blank (b ∷ t) none)
tokens_join (b ∷ t) (y ∷ ys) some none ends =
    let blank = ends (omega arith) in
    rw (tokens-blank y ys blank)
    (ap (filter is_some_run) (slice_split_at is_blank (b ∷ t) y ys none blank))

-- What a reader takes: the first n bytes are no blanks, and a blank or nothing comes after them.
pub tokens_take : (n : ℕ) (text : List ℕ) → 0 < n → n ≤ length text → NoBlank (take n text) →
    (n < length text → is_blank (slice_index text n) ≡ true) →
    tokens text ≡ take n text ∷ tokens (drop n text)
tokens_take n text some fits none ends =
    let same : slice_index (drop n text) 0 ≡ slice_index text n = grind (arith, common_steps) in
    let joined = tokens_join (take n text) (drop n text) (grind (arith, common_steps)) none
    (λ more. rw same (ends (grind (arith, common_steps, more)))) in
    rw take-append-drop at joined

-- what is left before a blank and behind it
pub past_blank : (text : List ℕ) (n : ℕ) → n < length text → is_blank (slice_index text n) ≡ true →
    tokens (drop n text) ≡ tokens (drop (n + 1) text)
past_blank text n within blank =
    rw (add-one, drop-cons text n 0 within)
    (tokens-blank (get_or text n 0) (drop (suc n) text) blank)

-- one more blank passed
pub blank_passed : (text : List ℕ) (i : ℕ) → i < length text → is_blank (get_or text i 0) ≡ true →
    tokens (drop i text) ≡ tokens text → tokens (drop (i + 1) text) ≡ tokens text
blank_passed text i within blank before = sym (past_blank text i within blank) ∙ before

-- one more byte of a run
pub run_more : (text : List ℕ) (i : ℕ) → i < length text → NoBlank (take i text) →
    is_blank (get_or text i 0) ≡ false → NoBlank (take (i + 1) text)
run_more text i within before here =
    rw (take_more text i 0 within) (All-push
    (λ b. is_blank b ≡ false) (take i text) (get_or text i 0) before here)

-- Whatever comes after these bytes, the first token begins with them.
pub record Begins (front rest : List ℕ) : Type 0 where
  pub more : List ℕ
  pub later : List (List ℕ)
  pub is : tokens (front ++ rest) ≡ (front ++ more) ∷ later

pub tokens_begin : (front rest : List ℕ) → 0 < length front → NoBlank front → Begins front rest
tokens_begin front [] some none = record {
  more = [];
  later = [];
  is =
      let alone = tokens_join front [] some none (λ more. absurd (omega arith)) in
      rw (alone, append-nil, tokens-nil) refl;
}
tokens_begin front (y ∷ ys) some none = elim (cases_Bool (is_blank y)) [
  | inl blank ↦ record {
    more = [];
    later = tokens (y ∷ ys);
    is = rw (tokens_join front (y ∷ ys) some none (λ more. blank), append-nil) refl;
  }
  | inr other ↦
      let b = tokens_begin (front ++ y ∷ []) ys (grind (arith, common_steps))
      (All-push (λ x. is_blank x ≡ false) front y none other) in
      record { more = y ∷ b.more; later = b.later; is = simp append_assoc at b.is }
]

-- Bytes up to a blank are some where the first is no blank.
pub some_run : (text : List ℕ) (n : ℕ) → 0 < length text →
    (0 < length text → is_blank (slice_index text 0) ≡ false) →
    (n < length text → is_blank (slice_index text n) ≡ true) → 0 < n
some_run text zero some begins ends = absurd (both_ways _ (begins some) (ends some))
some_run text (suc n) some begins ends = omega arith

-- A byte that is no blank is in a token.
pub some_left : (text : List ℕ) → 0 < length text →
    (0 < length text → is_blank (slice_index text 0) ≡ false) →
    check_end (tokens text) ≡ Err TrailingTokens
some_left [] some begins = absurd (omega arith)
some_left (b ∷ t) some begins =
    let none = All-from_recursion (λ x. is_blank x ≡ false) (b ∷ []) (begins some, tt) in
    rw (tokens_begin (b ∷ []) t (omega arith) none).is refl
