-- The list of jobs that a text is.
use Rattle.std.specs.Prelude.{◌==◌, ℕ, ◌≤◌, Bool, true, false, List, [], ◌∷◌, length, filter, map}
use Rattle.std.specs.List.{slice_split}
use Rattle.std.specs.Str.{IsUtf8}
use Rattle.gc_netlist.specs.Text.{tokens}
use Rattle.gc_rounds.specs.declared.words.TheConstants.{MAX_JOBS}
use Rattle.gc_command.specs.declared.fault.Fault.{Fault}
use Rattle.gc_command.specs.declared.fault.Fault.TheVariants.{BadList, Memory}

abbrev pub has_words : List (List ℕ) → Bool
has_words [] = false
has_words (word ∷ words) = true

-- The words of each line that has one: line feeds (byte 10) part lines, and tokens are those of Bristol Fashion.
abbrev pub listed : List ℕ → List (List (List ℕ))
listed text =
    map tokens (filter (λ line. has_words (tokens line)) (slice_split (λ b. b == 10) text))

-- The text is UTF-8, and does not have too many such lines.
pub record IsJobList (text : List ℕ) : Type 0 where
  pub utf8 : IsUtf8 text
  pub count : length (listed text) ≤ MAX_JOBS

-- The faults of a list's text.
abbrev pub HasTextFault : List ℕ → Fault → Type 0
HasTextFault text BadList = ¬ IsJobList text
HasTextFault text Memory = Unit {0}
HasTextFault text _ = ⊥
