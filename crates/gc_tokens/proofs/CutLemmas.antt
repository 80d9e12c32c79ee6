-- Cuts of a text between two tokens.
use Rattle.gc_tokens.proofs.Names.{◌≡◌, ℕ, ◌+◌, ◌-◌, ◌<◌, ◌≤◌, ◌++◌, inl, inr, List, length, take, drop, slice_index, true, arith, append_assoc, take-append-drop, common_steps, is_blank}
use Rattle.gc_tokens.specs.Cursor.{IsCut, KeepsCuts}

-- A cut further on, where a blank comes next or nothing,
pub cut_before : (all rest text : List ℕ) (k n : ℕ) → IsCut all rest → k ≤ length rest →
    text ≡ drop k rest → n ≤ length text →
    (n < length text → is_blank (slice_index text n) ≡ true) → IsCut all (drop n text)
cut_before all rest text k n cut within is fits ends = record {
  before = (cut.before ++ take k rest) ++ take n text;
  whole = rw (append_assoc, take-append-drop, is, append_assoc, take-append-drop) cut.whole;
  between = inl (λ some.
      let same : slice_index (drop n text) 0 ≡ slice_index text n = grind (arith, common_steps) in
      rw same (ends (grind (arith, common_steps, some))));
}

-- or where a blank came last.
pub cut_behind : (all rest : List ℕ) (n : ℕ) → IsCut all rest → 0 < n → n ≤ length rest →
    is_blank (slice_index rest (n - 1)) ≡ true → IsCut all (drop n rest)
cut_behind all rest n cut some fits blank = record {
  before = cut.before ++ take n rest;
  whole = rw (append_assoc, take-append-drop) cut.whole;
  between = inr (λ any.
      let same : slice_index (cut.before ++ take n rest) (length (cut.before ++ take n rest) - 1)
      ≡ slice_index rest (n - 1) = grind (arith, common_steps) in
      rw same blank);
}

-- So each cut leads to one behind a blank.
pub keeps_behind : (text : List ℕ) (n : ℕ) → n < length text →
    is_blank (slice_index text n) ≡ true → KeepsCuts text (drop (n + 1) text)
keeps_behind text n within blank all cut =
    let same : n + 1 - 1 ≡ n = omega arith in
    cut_behind all text (n + 1) cut (omega arith) (omega arith) (rw same blank)
