-- Words with a mistake ask for no text: of the kinds of error that clap's rules give for a line of the program, all
-- ask for a text or none does.
use Rattle.gc_cli.proofs.Names.{◌≡◌, ◌≢◌, ◌∙◌, ℕ, zero, suc, Bool, true, false, not, ◌&&◌, ◌⊎◌, inl, inr, ⊎_elim, List, [], ◌∷◌, length, drop, Option, Some, None, refl, sym, ap, subst, true≢false, if◌then◌else◌, ◌==◌, nat_lt, find, encode_utf8, slice_get, chars, program}
use Rattle.std.specs.Option.{option_map_or}
use Rattle.clap.specs.Lexer.{long_of, short_of}
use Rattle.clap.specs.Values.{refused_kind}
use Rattle.clap.specs.Facts.{parser_of_value, unwrap_or_range}
use Rattle.clap.specs.Walk.{settled, finished, walked, walk, word_met, most_values, values_or_missing, with_default, Held, Names, Row, Rule, Step, next, trailing, subcommand, value, Text, Waiting, option, Walk, action_of, answers_to, arg_by_id, arg_by_index, arg_by_long, arg_by_short, nothing_held, subcommand_met, walk_from}
use Rattle.clap.specs.Simple.{App, Shape, argument_words, built, label_of, names_of}
use Rattle.clap.specs.Kinds.{IsAmong, Kinds, or_else, range_kinds, request_kinds, value_kinds, values_kinds}
use Rattle.clap.specs.Faults.{count_fault, set_fault, action_fault, use_fault, settle_fault, react_fault, option_fault, long_fault, short_fault, bundle_step_fault, flags_fault, flag_word_fault, other_fault, word_fault, positional_fault, step_fault, turn_fault, walk_fault, default_fault, defaults_fault, check_fault, level_fault, entered_fault, built_fault, fault_of}
use Rattle.clap.specs.declared.builder.value_parser.ValueParser.{ValueParser}
use Rattle.clap.specs.declared.builder.action.ArgAction.{ArgAction}
use Rattle.clap.specs.declared.builder.action.ArgAction.TheVariants as action
use Rattle.clap.specs.declared.error.kind.ErrorKind.{ErrorKind}
use Rattle.clap.specs.declared.error.kind.ErrorKind.TheVariants as kind
use Rattle.clap.proofs.OnLiterals.{clap_on_literals}
use Rattle.gc_cli.specs.CommandLine.{IsMistaken}

-- The kind asks for a text that goes to standard output.
abbrev asks_for_text : ErrorKind → Bool
asks_for_text kind.DisplayHelp = true
asks_for_text kind.DisplayVersion = true
asks_for_text _ = false

-- All the kinds ask for a text, or none does.
record IsUniform (kinds : Kinds) : Type 0 where
  agree : (a b : ErrorKind) → IsAmong a kinds → IsAmong b kinds → asks_for_text a ≡ true
      → asks_for_text b ≡ true

-- no kind, and one
none : IsUniform []
none = record { agree = λ a b p q asks. absurd p }

among-one : (a k : ErrorKind) → IsAmong a (k ∷ []) → a ≡ k
among-one a k h = ⊎_elim (λ same. same) (λ no. absurd no) h

one : (k : ErrorKind) → IsUniform (k ∷ [])
one k = record {
  agree = λ a b p q asks. subst (λ x. asks_for_text x ≡ true)
      (among-one a k p ∙ sym (among-one b k q)) asks;
}

-- no kind of these asks for a text
stray-silent : (a : ErrorKind) → IsAmong a (kind.UnknownArgument ∷ kind.InvalidSubcommand ∷ [])
    → asks_for_text a ≡ true → ⊥
stray-silent a p asks = ⊎_elim
    (λ same. true≢false (sym asks ∙ ap asks_for_text same))
    (λ rest. true≢false (sym asks ∙ ap asks_for_text (among-one a kind.InvalidSubcommand rest)))
    p

-- what clap says of a word that it can't place
stray-two : IsUniform (kind.UnknownArgument ∷ kind.InvalidSubcommand ∷ [])
stray-two = record { agree = λ a b p q asks. absurd (stray-silent a p asks) }

-- the kinds of one step, or of the next
both : {a b : Kinds} → IsUniform a → IsUniform b → IsUniform (or_else a b)
both {a = []} p q = q
both {a = k ∷ ks} p q = p

-- the kinds by a test, and by a value that may be there
either : (c : Bool) {a b : Kinds} → IsUniform a → IsUniform b → IsUniform (if c then a else b)
either true p q = p
either false p q = q

perhaps : {T : Type 0} (o : Option T) {f : T → Kinds} {d : Kinds} → ((x : T) → IsUniform (f x))
    → IsUniform d → IsUniform (option_map_or f o d)
perhaps None p q = q
perhaps (Some x) p q = p x

-- ---- the kinds of single tests

value_kinds-uniform : (i : Bool) (p : ValueParser) (t : Text) → IsUniform (value_kinds i p t)
value_kinds-uniform i p t = either _ none (one (refused_kind p))

values_kinds-uniform : (i : Bool) (p : ValueParser) (ts : List Text)
    → IsUniform (values_kinds i p ts)
values_kinds-uniform i p [] = none
values_kinds-uniform i p (t ∷ ts) = both (value_kinds-uniform i p t) (values_kinds-uniform i p ts)

range_kinds-uniform : (least most n : ℕ) → IsUniform (range_kinds least most n)
range_kinds-uniform least most n =
    either (nat_lt 0 least && n == 0) (one kind.InvalidValue)
    (either (least == most) (either (least == n) none (one kind.WrongNumberOfValues))
    (either (nat_lt n least) (one kind.TooFewValues)
    (either (nat_lt most n) (one kind.TooManyValues) none)))

request_kinds-uniform : (x : ArgAction) → IsUniform (request_kinds x)
request_kinds-uniform action.Help = one kind.DisplayHelp
request_kinds-uniform action.HelpShort = one kind.DisplayHelp
request_kinds-uniform action.HelpLong = one kind.DisplayHelp
request_kinds-uniform action.Version = one kind.DisplayVersion
request_kinds-uniform _ = none

-- ---- one use of an argument

count_fault-uniform : (a : Rule) (ts : List Text) (rows : List Row)
    → IsUniform (count_fault a ts rows)
count_fault-uniform a [] rows = value_kinds-uniform a.ignore_case (parser_of_value a.parser) _
count_fault-uniform a (t ∷ ts) rows =
    values_kinds-uniform a.ignore_case (parser_of_value a.parser) (t ∷ ts)

set_fault-uniform : (again : Bool) (a : Rule) (ts : List Text) (rows : List Row)
    → IsUniform (set_fault again a ts rows)
set_fault-uniform again a ts rows =
    both (either _ (one kind.ArgumentConflict) none) (values_kinds-uniform _ _ ts)

action_fault-uniform : (x : ArgAction) (again : Bool) (a : Rule) (ts : List Text) (rows : List Row)
    → IsUniform (action_fault x again a ts rows)
action_fault-uniform action.Set again a ts rows = set_fault-uniform again a ts rows
action_fault-uniform action.SetTrue again a ts rows = set_fault-uniform again a ts rows
action_fault-uniform action.SetFalse again a ts rows = set_fault-uniform again a ts rows
action_fault-uniform action.Append again a ts rows = values_kinds-uniform _ _ ts
action_fault-uniform action.Count again a ts rows = count_fault-uniform a ts rows
action_fault-uniform action.Help again a ts rows = one kind.DisplayHelp
action_fault-uniform action.HelpShort again a ts rows = one kind.DisplayHelp
action_fault-uniform action.HelpLong again a ts rows = one kind.DisplayHelp
action_fault-uniform action.Version again a ts rows = one kind.DisplayVersion

use_fault-uniform : (again : Bool) (a : Rule) (ts : List Text) (rows : List Row)
    → IsUniform (use_fault again a ts rows)
use_fault-uniform again a ts rows =
    both (range_kinds-uniform (unwrap_or_range a.range).start_inclusive (most_values a) (length ts))
    (action_fault-uniform (action_of a) again a (values_or_missing a ts) rows)

-- ---- the walk

module _ (c : List Rule) (again : Bool) where
  settle_fault-uniform : (h : Held) → IsUniform (settle_fault c again h)
  settle_fault-uniform h = perhaps h.pending
      (λ p. perhaps (arg_by_id c p.0) (λ a. use_fault-uniform again a p.1 h.rows) none) none

  react_fault-uniform : (a : Rule) (ts : List Text) (h : Held)
      → IsUniform (react_fault c again a ts h)
  react_fault-uniform a ts h = both (settle_fault-uniform h) (use_fault-uniform again a ts _)

  option_fault-uniform : (a : Rule) (o : Option Text) (h : Held)
      → IsUniform (option_fault c again a o h)
  option_fault-uniform a (Some v) h = react_fault-uniform a (v ∷ []) h
  option_fault-uniform a None h = settle_fault-uniform h

  long_fault-uniform : (o : Option Rule) (v : Option Text) (h : Held)
      → IsUniform (long_fault c again o v h)
  long_fault-uniform None v h = one kind.UnknownArgument
  long_fault-uniform (Some a) v h = either _ (option_fault-uniform a v h)
      (either _ (one kind.TooManyValues) (react_fault-uniform a [] h))

  short_fault-uniform : (o : Option Rule) (rest : Text) (h : Held) (more : Held → Kinds)
      → ((x : Held) → IsUniform (more x)) → IsUniform (short_fault c again o rest h more)
  short_fault-uniform None rest h more each = one kind.UnknownArgument
  short_fault-uniform (Some a) rest h more each =
      either _ (option_fault-uniform a _ h) (both (react_fault-uniform a [] h) (each _))

  bundle_step_fault-uniform : (o : Option ℕ) (flags : Text) (skip : ℕ) (h : Held)
      (more : Text → ℕ → Held → Kinds) → ((t : Text) (n : ℕ) (x : Held) → IsUniform (more t n x))
      → IsUniform (bundle_step_fault c again o flags skip h more)
  bundle_step_fault-uniform None flags skip h more each = none
  bundle_step_fault-uniform (Some x) flags zero h more each =
      let rest = drop (length (encode_utf8 x)) flags in
      short_fault-uniform (arg_by_short c x) rest h (more rest 0) (each rest 0)
  bundle_step_fault-uniform (Some x) flags (suc skip) h more each = each _ skip h

  flags_fault-uniform : (k : ℕ) (flags : Text) (skip : ℕ) (h : Held)
      → IsUniform (flags_fault c again k flags skip h)
  unfolding flags_fault
  flags_fault-uniform zero flags skip h = none
  flags_fault-uniform (suc k) flags skip h =
      bundle_step_fault-uniform (slice_get (chars flags) 0) flags skip h _ (flags_fault-uniform k)

  flag_word_fault-uniform : (o : Option (Text × Option Text)) (word : Text) (h : Held)
      → IsUniform (flag_word_fault c again o word h)
  flag_word_fault-uniform (Some p) word h = long_fault-uniform (arg_by_long c p.0) p.1 h
  flag_word_fault-uniform None word h = perhaps (short_of word)
      (λ flags. flags_fault-uniform (length flags) flags h.skip (record h { skip = 0 })) none

  positional_fault-uniform : (a : Rule) (h : Held) → IsUniform (positional_fault c again a h)
  positional_fault-uniform a h = either _ none (settle_fault-uniform h)

-- a subcommand `help` that is turned off asks for no help
no_help : (named off : Bool) → off ≡ true
    → IsUniform (if named && not off then kind.DisplayHelp ∷ kind.InvalidSubcommand ∷ [] else [])
no_help true true e = none
no_help false off e = none
no_help true false e = absurd (true≢false (sym e))

-- a word that names no subcommand
other_word-uniform : (s : Shape) (word : Text) (h : Held) → IsUniform (other_fault s None word h)
other_word-uniform s word h = either _ none (flag_word_fault-uniform s.rules _ (long_of word) word h)

off-uniform : (s : Shape) → s.disable_help_subcommand ≡ true → (o : Option Text) (word : Text)
    (h : Held) → IsUniform (other_fault s o word h)
off-uniform s off (Some name) word h = no_help _ s.disable_help_subcommand off
off-uniform s off None word h = other_word-uniform s word h

none-met : (waiting : Waiting) (word : Text) → subcommand_met [] waiting word ≡ None
none-met (option id) word = refl
none-met _ word = refl

-- The command has no subcommand `help`: it is turned off, or there is no subcommand.
abbrev LacksHelp : Shape → Names → Type 0
LacksHelp s names = (s.disable_help_subcommand ≡ true) ⊎ (names ≡ [])

module _ (s : Shape) (names : Names) (lacks : LacksHelp s names) where
  other_fault-uniform : (waiting : Waiting) (word : Text) (h : Held)
      → IsUniform (other_fault s (subcommand_met names waiting word) word h)
  other_fault-uniform waiting word h = ⊎_elim
      (λ off. off-uniform s off (subcommand_met names waiting word) word h)
      (λ alone. subst (λ o. IsUniform (other_fault s o word h))
      (sym (ap (λ (n : Names). subcommand_met n waiting word) alone ∙ none-met waiting word))
      (other_word-uniform s word h))
      lacks

  word_fault-uniform : (is_trailing : Bool) (waiting : Waiting) (word : Text) (h : Held)
      → IsUniform (word_fault s names is_trailing waiting word h)
  word_fault-uniform is_trailing waiting word h = either _ none (other_fault-uniform waiting word h)

  step_fault-uniform : (position : ℕ) (h : Held) (x : Step) → IsUniform (step_fault s position h x)
  step_fault-uniform position h value = perhaps (arg_by_index s.rules position)
      (λ a. positional_fault-uniform s.rules s.args_override_self a h)
      (either s.is_leaf (one kind.UnknownArgument) stray-two)
  step_fault-uniform position h (next waiting) = none
  step_fault-uniform position h (trailing at) = none
  step_fault-uniform position h (subcommand name) = none

  turn_fault-uniform : (w : Walk) (word : Text) → IsUniform (turn_fault s names w word)
  turn_fault-uniform w word =
      let met = word_met s.rules names w.is_trailing w.waiting w.position word w.held in
      either _ none (both (word_fault-uniform w.is_trailing w.waiting word w.held)
      (step_fault-uniform w.position met.0 met.1))

  walk_fault-uniform : (w : Walk) (words : List Text) → IsUniform (walk_fault s names w words)
  unfolding walk_fault
  walk_fault-uniform w [] = none
  walk_fault-uniform w (word ∷ rest) =
      both (turn_fault-uniform w word) (walk_fault-uniform (walked s.rules names w word) rest)

-- ---- after the walk

default_fault-uniform : (rows : List Row) (a : Rule) → IsUniform (default_fault rows a)
default_fault-uniform rows a =
    either _ none (both (request_kinds-uniform (action_of a)) (values_kinds-uniform _ _ a.defaults))

defaults_fault-uniform : (rows : List Row) (rules : List Rule) → IsUniform (defaults_fault rows rules)
unfolding defaults_fault
defaults_fault-uniform rows [] = none
defaults_fault-uniform rows (a ∷ rest) =
    both (default_fault-uniform rows a) (defaults_fault-uniform (with_default rows a) rest)

check_fault-uniform : (s : Shape) (rows : List Row) (has_subcommand : Bool)
    → IsUniform (check_fault s rows has_subcommand)
check_fault-uniform s rows has_subcommand =
    either _ (one kind.DisplayHelpOnMissingArgumentOrSubcommand)
    (either _ (one kind.MissingSubcommand) (either _ (one kind.MissingRequiredArgument) none))

level_fault-uniform : (s : Shape) (names : Names) → LacksHelp s names → (h : Held)
    (words : List Text) (has_subcommand : Bool) (below : Kinds) → IsUniform below
    → IsUniform (level_fault s names h words has_subcommand below)
level_fault-uniform s names lacks h words has_subcommand below p =
    let end = (walk s.rules names h words).held in
    both (walk_fault-uniform s names lacks (walk_from h) words)
    (both p (both (settle_fault-uniform s.rules s.args_override_self end)
    (both (defaults_fault-uniform (settled s.rules end).rows s.rules)
    (check_fault-uniform s (finished s.rules end) has_subcommand))))

entered_fault-uniform : (a : App) (stop : Option (Text × List Text))
    → IsUniform (entered_fault a stop)
entered_fault-uniform a stop = perhaps stop
    (λ p. perhaps (find (λ s. answers_to p.0 (label_of s)) a.subs)
    (λ s. level_fault-uniform s [] (inr refl) nothing_held p.1 false [] none) none) none

built_fault-uniform : (a : App) → a.top.disable_help_subcommand ≡ true → (h : Held)
    (words : List Text) → IsUniform (built_fault a h words)
built_fault-uniform a off h words =
    let stop = (walk a.top.rules (names_of a) h words).stopped in
    level_fault-uniform a.top (names_of a) (inl off) h words _ _ (entered_fault-uniform a stop)

-- ---- the program

program-off : (built program).top.disable_help_subcommand ≡ true
unfolding clap_on_literals
program-off = refl

fault_of-uniform : (words : List Text) → IsUniform (fault_of program words)
fault_of-uniform words = built_fault-uniform (built program) program-off nothing_held
    (argument_words program words)

text-kinds : (k : ErrorKind) → asks_for_text k ≡ true
    → (k ≡ kind.DisplayHelp) ⊎ (k ≡ kind.DisplayVersion)
text-kinds kind.DisplayHelp asks = inl refl
text-kinds kind.DisplayVersion asks = inr refl
text-kinds _ asks = absurd (true≢false (sym asks))

-- Words with a fault of another kind ask for no text.
pub IsMistaken-other_kind : (words : List Text) (k : ErrorKind) → IsAmong k (fault_of program words)
    → k ≢ kind.DisplayHelp → k ≢ kind.DisplayVersion → IsMistaken words
IsMistaken-other_kind words k among no_help no_version =
    let other : asks_for_text k ≡ true → ⊥ = λ asks. ⊎_elim no_help no_version (text-kinds k asks) in
    let agree = (fault_of-uniform words).agree in (
      λ faultless. subst (IsAmong k) faultless among,
      λ asks. ⊎_elim (λ help. other (agree kind.DisplayHelp k help among refl))
          (λ version. other (agree kind.DisplayVersion k version among refl)) asks,
    )
