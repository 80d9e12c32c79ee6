-- The arguments that the words of a command line stand for: the option `--args-from` with the name of a file stands for
-- the lines of that file.
use Rattle.std.specs.Prelude.{◌≡◌, ◌≢◌, ℕ, ◌⊎◌, List, [], ◌∷◌, ◌++◌, EachIndex, slice_index, bytes_eq, codes, if◌then◌else◌}
use Rattle.std.specs.Str.{IsUtf8}
use Rattle.gc_disk.specs.Files.{FileBytes, GivesFile}
use Rattle.gc_cli.specs.declared.arguments.Refusal.{Refusal}
use Rattle.gc_cli.specs.declared.arguments.Refusal.TheVariants.{NoFile, CannotRead, Memory}

-- The text has no line feed.
abbrev pub IsOneLine : List ℕ → Type 0
IsOneLine text = EachIndex text (λ i. slice_index text i ≢ 10)

-- The lines of a text. An empty text has none. A line ends with a line feed, or with the text.
pub data AreLines : List ℕ → List (List ℕ) → Type 0 where
  no_line : AreLines [] []
  last_line : {line : List ℕ} → line ≢ [] → IsOneLine line → AreLines line (line ∷ [])
  next_line : {line rest : List ℕ} {lines : List (List ℕ)} → IsOneLine line → AreLines rest lines
      → AreLines (line ++ 10 ∷ rest) (line ∷ lines)

-- The file of this name gives a text that has these lines,
abbrev pub HasLines : FileBytes → List ℕ → List (List ℕ) → Type 0
HasLines files name lines =
    (text : List ℕ) × (GivesFile (files name) text × (IsUtf8 text × AreLines text lines))

-- or it gives no text.
abbrev pub IsNoText : FileBytes → List ℕ → Type 0
IsNoText files name = (bytes : List ℕ) × (GivesFile (files name) bytes × ¬ (IsUtf8 bytes))

-- The words begin with the option and the name of this file, and these words are left.
abbrev pub BeginWithFile : List (List ℕ) → List ℕ → List (List ℕ) → Type 0
BeginWithFile words name left =
    (words ≡ codes "--args-from" ∷ name ∷ left) ⊎ (words ≡ (codes "--args-from=" ++ name) ∷ left)

-- No word is left, or `--` comes next, after which no word is an option.
abbrev pub IsEnd : List (List ℕ) → Type 0
IsEnd [] = Unit {0}
IsEnd (word ∷ left) = word ≡ codes "--"

-- The word is the option, with its file or without it.
abbrev pub IsOption : List ℕ → Type 0
IsOption word =
    (word ≡ codes "--args-from") ⊎ ((name : List ℕ) × (word ≡ codes "--args-from=" ++ name))

-- The word is neither that nor the option.
pub record IsPlain (word : List ℕ) : Type 0 where
  pub no_end : word ≢ codes "--"
  pub no_option : word ≢ codes "--args-from"
  pub no_option_with_file : (name : List ℕ) → word ≢ codes "--args-from=" ++ name

-- What comes first in the words stands for these arguments, and these words are left: a plain word stands for itself,
-- and the option with a file for the file's lines.
pub data FirstStandsFor (files : FileBytes) : List (List ℕ) → List (List ℕ) → List (List ℕ)
    → Type 0 where
  plain_word : {word : List ℕ} {left : List (List ℕ)} → IsPlain word
      → FirstStandsFor files (word ∷ left) (word ∷ []) left
  file_lines : {words lines left : List (List ℕ)} (name : List ℕ) → BeginWithFile words name left
      → HasLines files name lines → FirstStandsFor files words lines left

-- The words in front stand for these arguments, one after another, and these words are left.
pub data FrontStandsFor (files : FileBytes) : List (List ℕ) → List (List ℕ) → List (List ℕ)
    → Type 0 where
  no_word : {words : List (List ℕ)} → FrontStandsFor files words [] words
  next_word : {words first rest given left : List (List ℕ)} → FirstStandsFor files words first rest
      → FrontStandsFor files rest given left → FrontStandsFor files words (first ++ given) left

-- The words stand for these arguments: those in front do, and from their end on each stands for itself.
pub record WordsStandFor (files : FileBytes) (words arguments : List (List ℕ)) : Type 0 where
  pub given : List (List ℕ)
  pub left : List (List ℕ)
  pub front : FrontStandsFor files words given left
  pub end : IsEnd left
  pub all : arguments ≡ given ++ left

-- A first argument `help`, after the program's name, is `--help` as the last one.
abbrev pub help_last : List (List ℕ) → List (List ℕ)
help_last (program ∷ first ∷ rest) =
    if bytes_eq first (codes "help") then program ∷ (rest ++ codes "--help" ∷ [])
    else program ∷ first ∷ rest
help_last arguments = arguments

-- Such a first argument is there.
pub record AskForHelp (arguments : List (List ℕ)) : Type 0 where
  pub program : List ℕ
  pub rest : List (List ℕ)
  pub are : arguments ≡ program ∷ codes "help" ∷ rest

-- Each word before the end is plain.
pub data ArePlain : List (List ℕ) → Type 0 where
  no_more : {words : List (List ℕ)} → IsEnd words → ArePlain words
  one_more : {word : List ℕ} {left : List (List ℕ)} → IsPlain word → ArePlain left
      → ArePlain (word ∷ left)

-- The words of a command line stand for themselves, whatever is in the files.
abbrev pub StandForThemselves : List (List ℕ) → Type 0
StandForThemselves [] = Unit {0}
StandForThemselves (program ∷ words) = ¬ AskForHelp (program ∷ words) × ArePlain words

-- The words of a command line, of which the first is the program's name, stand for these arguments.
abbrev pub LineStandsFor : FileBytes → List (List ℕ) → List (List ℕ) → Type 0
LineStandsFor files [] arguments = arguments ≡ []
LineStandsFor files (program ∷ words) arguments =
    (given : List (List ℕ))
    × ((arguments ≡ help_last (program ∷ given)) × WordsStandFor files words given)

-- The file of this name is refused for this reason. `Failed` says of a name that its file has failed.
abbrev pub IsRefusedFile : FileBytes → (List ℕ → Type 0) → List ℕ → Refusal → Type 0
IsRefusedFile files Failed name NoFile = ⊥
IsRefusedFile files Failed name CannotRead = Failed name ⊎ IsNoText files name
IsRefusedFile files Failed name Memory = Unit {0}

-- The words that come next are refused for this reason.
abbrev pub IsRefusedNext : FileBytes → (List ℕ → Type 0) → List (List ℕ) → Refusal → Type 0
IsRefusedNext files Failed words NoFile = words ≡ codes "--args-from" ∷ []
IsRefusedNext files Failed words CannotRead =
    (name : List ℕ) × ((left : List (List ℕ)) × (BeginWithFile words name left
    × IsRefusedFile files Failed name CannotRead))
IsRefusedNext files Failed words Memory = Unit {0}

-- The words in front stand for arguments, and those that come next are refused.
pub record AreRefused (files : FileBytes) (Failed : List ℕ → Type 0) (words : List (List ℕ))
    (refusal : Refusal) : Type 0 where
  pub given : List (List ℕ)
  pub left : List (List ℕ)
  pub front : FrontStandsFor files words given left
  pub next : IsRefusedNext files Failed left refusal

-- The same of the words of a command line.
abbrev pub IsRefusedLine : FileBytes → (List ℕ → Type 0) → List (List ℕ) → Refusal → Type 0
IsRefusedLine files Failed [] refusal = ⊥
IsRefusedLine files Failed (program ∷ words) refusal = AreRefused files Failed words refusal
