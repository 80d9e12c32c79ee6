-- Where a reader is in a text.
use Rattle.std.specs.Prelude.{◌≡◌, ℕ, ◌<◌, ◌-◌, ◌++◌, ◌⊎◌, true, List, length, slice_index}
use Rattle.gc_netlist.specs.Text.{is_blank}

-- A cursor in a text: the text, and the tokens that are left.
pub record Cursor : Type 0 where
  pub text : List ℕ
  pub left : List (List ℕ)

-- No token goes on from the first bytes into the rest: a blank begins the rest, or ends the first bytes.
abbrev pub IsBreak : List ℕ → List ℕ → Type 0
IsBreak before rest = (0 < length rest → is_blank (slice_index rest 0) ≡ true)
    ⊎ (0 < length before → is_blank (slice_index before (length before - 1)) ≡ true)

-- The text ends with the rest, and no token goes on into it.
pub record IsCut (text rest : List ℕ) : Type 0 where
  pub before : List ℕ
  pub whole : text ≡ before ++ rest
  pub between : IsBreak before rest

-- Wherever the one text is what a cut leaves, so is the other.
abbrev pub KeepsCuts : List ℕ → List ℕ → Type 0
KeepsCuts text rest = (all : List ℕ) → IsCut all text → IsCut all rest
