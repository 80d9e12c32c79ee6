-- Lines and words, one more at a time.
use Rattle.gc_cli.proofs.Names.{◌≡◌, ◌≢◌, ◌∙◌, ℕ, Bool, true, false, List, [], ◌∷◌, ◌++◌, append_assoc, ap, ap₂, sym, refl, length, map, true≢false, arith, subst, inl, inr, ◌==◌, codes, bytes_eq, if◌then◌else◌, append-nil, nil_from_length, ArePlain, no_more, one_more, AskForHelp, IsOption, LineStandsFor, StandForThemselves, WordsStandFor, help_last, AreLines, no_line, next_line, IsOneLine, BeginWithFile, IsEnd, IsPlain, FirstStandsFor, plain_word, FrontStandsFor, no_word, next_word, IsRefusedFile, IsRefusedNext, IsRefusedLine}
use Rattle.std.proofs.lemmas.Bool.Decides.{nat_tests}
use Rattle.std.proofs.lemmas.Slice.Eq.{bytes_eq-Decides}
use Rattle.gc_disk.specs.Files.{FileBytes}
use Rattle.gc_cli.specs.declared.arguments.Refusal.{Refusal}
use Rattle.gc_cli.specs.declared.arguments.Refusal.TheVariants.{NoFile, CannotRead, Memory}

-- the front of the words, and then what comes first in the others
pub front-next : (files : FileBytes) (words mid after given first : List (List ℕ))
    → ((more left : List (List ℕ)) → FrontStandsFor files mid more left
    → FrontStandsFor files words (given ++ more) left)
    → FirstStandsFor files mid first after → (more left : List (List ℕ))
    → FrontStandsFor files after more left → FrontStandsFor files words ((given ++ first) ++ more)
    left
front-next files words mid after given first before step more left later =
    rw append_assoc (before (first ++ more) left (next_word step later))

-- the lines so far, and one more
pub lines-next : (text rest line after : List ℕ) (given : List (List ℕ))
    → ((more : List (List ℕ)) → AreLines rest more → AreLines text (given ++ more))
    → rest ≡ line ++ 10 ∷ after → IsOneLine line → (more : List (List ℕ))
    → AreLines after more → AreLines text ((given ++ line ∷ []) ++ more)
lines-next text rest line after given before is one more later =
    rw append_assoc (before (line ∷ more) (rw is (next_line one later)))

-- no text is left, or some is
pub no-text : (text : List ℕ) (r : Bool) → r ≡ (length text == 0) → r ≡ true → AreLines text []
no-text text r is empty = rw (nil_from_length text (grind (arith, nat_tests))) no_line

pub some-text : (text : List ℕ) (r : Bool) → r ≡ (length text == 0) → r ≡ false → text ≢ []
some-text text r is some none =
    true≢false (sym (ap (λ (t : List ℕ). length t == 0) none) ∙ sym is ∙ some)

-- the lines so far are all
pub lines-end : (text rest : List ℕ) (given : List (List ℕ))
    → ((more : List (List ℕ)) → AreLines rest more → AreLines text (given ++ more))
    → AreLines rest [] → AreLines text given
lines-end text rest given before none = rw append-nil at (before [] none)

-- what `==` says of two texts
pub same-text : (xs ys : List ℕ) (r : Bool) → r ≡ bytes_eq xs ys → r ≡ true → xs ≡ ys
same-text xs ys r is same = (bytes_eq-Decides xs ys).0 (sym is ∙ same)

pub other-text : (xs ys : List ℕ) (r : Bool) → r ≡ bytes_eq xs ys → r ≡ false → xs ≢ ys
other-text xs ys r is other same =
    true≢false (sym ((bytes_eq-Decides xs ys).1 same) ∙ sym is ∙ other)

module _ {X : Type 0} (f : X → List ℕ) where
  pub one-word : (words left : List X) (word : X) (text : List ℕ) → words ≡ word ∷ left
      → length left ≡ 0 → f word ≡ text → map f words ≡ text ∷ []
  one-word words [] word text is none same = ap (map f) is ∙ ap (λ t. t ∷ []) same
  one-word words (next ∷ left) word text is none same = absurd (omega arith)

  pub first-word : (words left : List X) (word : X) (text : List ℕ) → words ≡ word ∷ left
      → f word ≡ text → map f words ≡ text ∷ map f left
  first-word words left word text is same = ap (map f) is ∙ ap (λ t. t ∷ map f left) same

  pub two-words : (words left rest : List X) (word next : X) (text name : List ℕ)
      → words ≡ word ∷ left → left ≡ next ∷ rest → f word ≡ text → f next ≡ name
      → map f words ≡ text ∷ name ∷ map f rest
  two-words words left rest word next text name is after same named =
      ap (map f) (is ∙ ap (λ l. word ∷ l) after) ∙ ap₂ (λ a b. a ∷ b ∷ map f rest) same named

  pub not-end : (words left : List X) (word : X) (text : List ℕ) → words ≡ word ∷ left
      → f word ≡ text → ¬ (IsEnd (map f words)) → text ≢ codes "--"
  not-end words left word text is same more end =
      more (subst IsEnd (sym (first-word words left word text is same)) end)

  pub plain-first : (files : FileBytes) (words left : List X) (word : X) (text : List ℕ)
      → words ≡ word ∷ left → f word ≡ text → IsPlain text
      → FirstStandsFor files (map f words) (text ∷ []) (map f left)
  plain-first files words left word text is same plain =
      rw (first-word words left word text is same) (plain_word plain)

  -- the refusal of a line, of which the first word is the program's name
  pub line-memory : (files : FileBytes) (Failed : List ℕ → Type 0) (words left : List X) (word : X)
      → words ≡ word ∷ left → IsRefusedLine files Failed (map f words) Memory
  line-memory files Failed words left word is =
      rw is record { given = []; left = map f left; front = no_word; next = tt }

-- a file that is refused is the reason why its words are
pub next-refused : (files : FileBytes) (Failed : List ℕ → Type 0) (words : List (List ℕ))
    (name : List ℕ) (left : List (List ℕ)) (refusal : Refusal) → BeginWithFile words name left
    → IsRefusedFile files Failed name refusal → IsRefusedNext files Failed words refusal
next-refused files Failed words name left NoFile begin refused = absurd refused
next-refused files Failed words name left CannotRead begin refused = (_, (_, (begin, refused)))
next-refused files Failed words name left Memory begin refused = tt

-- Plain words stand for themselves.
pub plain-stand : (files : FileBytes) (words : List (List ℕ)) → ArePlain words
    → WordsStandFor files words words
plain-stand files words (no_more end) =
    record { given = []; left = words; front = no_word; end = end; all = refl }
plain-stand files (word ∷ left) (one_more plain rest) =
    let later = plain-stand files left rest in
    record {
      given = word ∷ later.given;
      left = later.left;
      front = next_word (plain_word plain) later.front;
      end = later.end;
      all = ap (λ l. word ∷ l) later.all;
    }

other-chosen : {X : Type 0} (b : Bool) (x y : X) → b ≢ true → (if b then x else y) ≡ y
other-chosen true x y other = absurd (other refl)
other-chosen false x y other = refl

-- no first argument is moved
pub not-help_last : (line : List (List ℕ)) → ¬ AskForHelp line → help_last line ≡ line
not-help_last [] other = refl
not-help_last (program ∷ []) other = refl
not-help_last (program ∷ first ∷ rest) other =
    other-chosen (bytes_eq first (codes "help")) (program ∷ (rest ++ codes "--help" ∷ []))
    (program ∷ first ∷ rest) (λ same. other record {
      program = program;
      rest = rest;
      are = ap (λ word. program ∷ word ∷ rest) ((bytes_eq-Decides first (codes "help")).0 same);
    })

-- So does a line of them.
pub themselves-stand : (files : FileBytes) (line : List (List ℕ)) → StandForThemselves line
    → LineStandsFor files line line
themselves-stand files [] is = refl
themselves-stand files (program ∷ words) is =
    (words, (sym (not-help_last (program ∷ words) is.0), plain-stand files words is.1))

-- what follows a word that is not the end
pub plain-later : (word : List ℕ) (left : List (List ℕ)) → word ≢ codes "--"
    → ArePlain (word ∷ left) → ArePlain left
plain-later word left other (no_more end) = absurd (other end)
plain-later word left other (one_more plain rest) = rest

-- an option is not plain
pub option-plain : (word : List ℕ) (left : List (List ℕ)) → word ≢ codes "--" → IsOption word
    → ¬ ArePlain (word ∷ left)
option-plain word left other is (no_more end) = absurd (other end)
option-plain word left other (inl e) (one_more plain rest) = plain.no_option e
option-plain word left other (inr (name, e)) (one_more plain rest) =
    plain.no_option_with_file name e

-- a word that is neither is
pub no-option-plain : (word : List ℕ) → word ≢ codes "--" → ¬ IsOption word → IsPlain word
no-option-plain word other neither = record {
  no_end = other;
  no_option = λ e. neither (inl e);
  no_option_with_file = λ name e. neither (inr (name, e));
}

-- no word is plain, and so is each
pub none-plain : {X : Type 0} (f : X → List ℕ) (words : List X) → length words ≡ 0
    → ArePlain (map f words)
none-plain f [] none = no_more tt
none-plain f (word ∷ left) none = absurd (omega arith)
