-- The command line, by clap's rules.
use Rattle.std.specs.Prelude.{◌≡◌, ◌==◌, ℕ, Bool, List, [], ◌∷◌, true, false, IsTrue, Option, Some, None, map, option_and_then, unwrap_or, codes, string_bytes, bytes_eq, if◌then◌else◌}
use Rattle.std.specs.List.{list_any}
use Rattle.std.specs.Option.{option_map_or}
use Rattle.clap.specs.Words.{App, Row, Rule, Shape, all_of, app_of, first_of, new_app, new_rule, rule_of, subcommand_of, with_rule, with_subcommand}
use Rattle.std.specs.Str.Parse.{digits_value, without_leading_plus}
use Rattle.clap.specs.ValueTests.{accepts}
use Rattle.clap.specs.declared.builder.value_parser.ValueParser.TheVariants.{Unsigned}
use Rattle.clap.specs.declared.builder.action.ArgAction.TheVariants.{Append, SetTrue}
use Rattle.clap.specs.declared.builder.arg.Arg.{Arg}
use Rattle.clap.specs.declared.builder.command.Command.{Command}
use Rattle.clap.specs.declared.builder.command.Command.TheViews.{out-Command}
use Rattle.gc_file.specs.declared.parts.Version.{Version}
use Rattle.gc_file.specs.declared.parts.Version.TheVariants.{One, Two}
use Rattle.gc_order.specs.declared.order.Order.{Order}
use Rattle.gc_order.specs.declared.order.Order.TheVariants.{Run, Plain, Check, Locate, Stats, ByDepth, Garble, Deal, Eval, Jobs, Labels, Audit}

-- a positional word that must be there
abbrev pub required_word : List ℕ → Rule
required_word id = record (new_rule id) { value_names = 1; required = true }

-- positional arguments, any number of them
abbrev pub more_words : List ℕ → Rule
more_words id = record (new_rule id) { value_names = 1; action = Some Append }

-- a positional word that must be there, and is a number from `low` to `high`
abbrev pub number_word : List ℕ → ℕ → ℕ → Rule
number_word id low high =
    record (new_rule id) { value_names = 1; parser = Some (Unsigned low high); required = true }

-- an option
abbrev pub named_option : List ℕ → Rule
named_option id = record (new_rule id) { long = Some id; value_names = 1 }

-- an option that is a number from `low` to `high`, and is `default` where it isn't given
abbrev pub number_option : List ℕ → ℕ → ℕ → List ℕ → Rule
number_option id low high default =
    record (named_option id) { parser = Some (Unsigned low high); defaults = default ∷ [] }

-- the option `--workers WORKERS`
abbrev pub workers_option : Rule
workers_option = number_option (codes "workers") 0 4294967295 (codes "1")

-- the flag `--hex`
abbrev pub hex_flag : Rule
hex_flag = record (new_rule (codes "hex")) { long = Some (codes "hex"); action = Some SetTrue }

-- the flag `--explain`
abbrev pub explain_flag : Rule
explain_flag =
    record (new_rule (codes "explain")) { long = Some (codes "explain"); action = Some SetTrue }

-- a command whose first word is a circuit's file, with the flag `--explain`
abbrev pub command_on_circuit : List ℕ → App
command_on_circuit name =
    with_rule (with_rule (new_app name) (required_word (codes "circuit"))) explain_flag

-- and whose second word is the seed
abbrev pub command_with_seed : List ℕ → App
command_with_seed name = with_rule (command_on_circuit name) (required_word (codes "seed"))

-- `run CIRCUIT SEED [--workers WORKERS] [--hex] [VALUES]...`
abbrev pub run_command : App
run_command =
    let with_workers = with_rule (command_with_seed (codes "run")) workers_option in
    let with_hex = with_rule with_workers hex_flag in
    with_rule with_hex (more_words (codes "values"))

-- `plain CIRCUIT [--hex] [VALUES]...`
abbrev pub plain_command : App
plain_command =
    let with_hex = with_rule (command_on_circuit (codes "plain")) hex_flag in
    with_rule with_hex (more_words (codes "values"))

-- `check CIRCUIT`
abbrev pub check_command : App
check_command = command_on_circuit (codes "check")

-- `locate CIRCUIT`
abbrev pub locate_command : App
locate_command = command_on_circuit (codes "locate")

-- `stats CIRCUIT`
abbrev pub stats_command : App
stats_command = command_on_circuit (codes "stats")

-- `order CIRCUIT OUT`
abbrev pub order_command : App
order_command = with_rule (command_on_circuit (codes "order")) (required_word (codes "out"))

-- `garble CIRCUIT SEED OUT [--format FORMAT] [--workers WORKERS]`
abbrev pub garble_command : App
garble_command =
    let with_out = with_rule (command_with_seed (codes "garble")) (required_word (codes "out")) in
    let with_format = with_rule with_out (number_option (codes "format") 1 2 (codes "2")) in
    with_rule with_format workers_option

-- `deal CIRCUIT SEED INDEX VALUE OUT`
abbrev pub deal_command : App
deal_command =
    let index = number_word (codes "index") 0 4294967295 in
    let with_index = with_rule (command_with_seed (codes "deal")) index in
    let with_value = with_rule with_index (required_word (codes "value")) in
    with_rule with_value (required_word (codes "out"))

-- `eval CIRCUIT GARBLED [--workers WORKERS] [--hex] [LABELS]...`
abbrev pub eval_command : App
eval_command =
    let garbled = required_word (codes "garbled") in
    let with_garbled = with_rule (command_on_circuit (codes "eval")) garbled in
    let with_workers = with_rule with_garbled workers_option in
    let with_hex = with_rule with_workers hex_flag in
    with_rule with_hex (more_words (codes "labels"))

-- `jobs CIRCUIT LIST [--workers WORKERS] [--hex]`
abbrev pub jobs_command : App
jobs_command =
    let with_list = with_rule (command_on_circuit (codes "jobs")) (required_word (codes "list")) in
    let with_workers = with_rule with_list workers_option in
    with_rule with_workers hex_flag

-- `labels CIRCUIT SEED [--from FROM] [--count COUNT] [VALUES]...`: no circuit has as many wires as COUNT is by default
abbrev pub labels_command : App
labels_command =
    let from = number_option (codes "from") 0 4294967295 (codes "0") in
    let with_from = with_rule (command_with_seed (codes "labels")) from in
    let count = number_option (codes "count") 0 4294967295 (codes "4294967295") in
    let with_count = with_rule with_from count in
    with_rule with_count (more_words (codes "values"))

-- `audit CIRCUIT SEED GARBLED [LABELS]...`
abbrev pub audit_command : App
audit_command =
    let garbled = required_word (codes "garbled") in
    let with_garbled = with_rule (command_with_seed (codes "audit")) garbled in
    with_rule with_garbled (more_words (codes "labels"))

-- The program, which needs a command, before it has any.
abbrev pub named_program : App
named_program =
    let name = new_app (codes "halfgates") in
    record name {
      top = record name.top {
        has_version = true;
        subcommand_required = true;
        arg_required_else_help = true;
        disable_help_subcommand = true;
      };
    }

-- The program with its commands.
abbrev pub program : App
program =
    let with_run = with_subcommand named_program run_command.top in
    let with_plain = with_subcommand with_run plain_command.top in
    let with_check = with_subcommand with_plain check_command.top in
    let with_locate = with_subcommand with_check locate_command.top in
    let with_stats = with_subcommand with_locate stats_command.top in
    let with_order = with_subcommand with_stats order_command.top in
    let with_garble = with_subcommand with_order garble_command.top in
    let with_deal = with_subcommand with_garble deal_command.top in
    let with_eval = with_subcommand with_deal eval_command.top in
    let with_jobs = with_subcommand with_eval jobs_command.top in
    let with_labels = with_subcommand with_jobs labels_command.top in
    with_subcommand with_labels audit_command.top

-- The program has a command of this name.
abbrev pub IsCommandName : List ℕ → Type 0
IsCommandName name = IsTrue (list_any (λ (s : Shape). bytes_eq name s.name) program.subs)

-- What clap reads of the argument, which is not global.
pub record HasRule (rule : Rule) (a : Arg) : Type 0 where
  pub rule_is : rule_of a ≡ rule
  pub local : a.global ≡ false

-- What clap reads of the command, none of whose arguments is global.
pub record HasShape (app : App) (c : Command) : Type 0 where
  pub shape : app_of c ≡ app
  pub no_globals : (out-Command c).has_globals ≡ false

-- An order as texts.
pub data OrderText : Type 0 where
  run : (circuit seed : List ℕ) (workers : ℕ) (hex : Bool) (values : List (List ℕ)) → OrderText
  plain : (circuit : List ℕ) (hex : Bool) (values : List (List ℕ)) → OrderText
  check : (circuit : List ℕ) → OrderText
  locate : (circuit : List ℕ) → OrderText
  stats : (circuit : List ℕ) → OrderText
  by_depth : (circuit out : List ℕ) → OrderText
  garble : (circuit seed out : List ℕ) (version : Version) (workers : ℕ) → OrderText
  deal : (circuit seed : List ℕ) (index : ℕ) (value out : List ℕ) → OrderText
  eval : (circuit garbled : List ℕ) (workers : ℕ) (hex : Bool) (labels : List (List ℕ)) → OrderText
  jobs : (circuit list : List ℕ) (workers : ℕ) (hex : Bool) → OrderText
  list_labels : (circuit seed : List ℕ) (from count : ℕ) (values : List (List ℕ)) → OrderText
  audit : (circuit seed garbled : List ℕ) (labels : List (List ℕ)) → OrderText

-- The texts of an order.
abbrev pub order_text : Order → OrderText
order_text (Run o) =
    run (string_bytes o.circuit) (string_bytes o.seed) o.workers o.hex
    (map string_bytes o.values.items)
order_text (Plain o) = plain (string_bytes o.circuit) o.hex (map string_bytes o.values.items)
order_text (Check circuit) = check (string_bytes circuit)
order_text (Locate circuit) = locate (string_bytes circuit)
order_text (Stats circuit) = stats (string_bytes circuit)
order_text (ByDepth o) = by_depth (string_bytes o.circuit) (string_bytes o.out)
order_text (Garble o) =
    garble (string_bytes o.circuit) (string_bytes o.seed) (string_bytes o.out) o.version o.workers
order_text (Deal o) =
    deal (string_bytes o.circuit) (string_bytes o.seed) o.index (string_bytes o.value)
    (string_bytes o.out)
order_text (Eval o) =
    eval (string_bytes o.circuit) (string_bytes o.garbled) o.workers o.hex
    (map string_bytes o.labels.items)
order_text (Jobs o) = jobs (string_bytes o.circuit) (string_bytes o.list) o.workers o.hex
order_text (Labels o) =
    list_labels (string_bytes o.circuit) (string_bytes o.seed) o.from o.count
    (map string_bytes o.values.items)
order_text (Audit o) =
    audit (string_bytes o.circuit) (string_bytes o.seed) (string_bytes o.garbled)
    (map string_bytes o.labels.items)

-- The word that clap found for an id that has one word,
abbrev pub word_of : List ℕ → List Row → List ℕ
word_of id rows = unwrap_or (first_of id rows) []

-- and the words for an id that has any number of them.
abbrev pub words_of : List ℕ → List Row → List (List ℕ)
words_of id rows = unwrap_or (all_of id rows) []

-- The number that a text spells in decimal digits, perhaps after a plus; 0 where it spells none below 2 ^ 32.
abbrev pub number_in : List ℕ → ℕ
number_in text =
    if accepts false (Unsigned 0 4294967295) text
    then digits_value 10 (without_leading_plus text) else 0

-- Whether a flag is set, by the word that clap found for it.
abbrev pub flag_in : List ℕ → Bool
flag_in word = bytes_eq word (codes "true")

-- The version of garbled files that a number names.
abbrev pub version_numbered : ℕ → Version
version_numbered number = if number == 1 then One else Two

-- The order of `run` in what clap found.
abbrev pub run_in : List Row → OrderText
run_in rows = run
    (word_of (codes "circuit") rows)
    (word_of (codes "seed") rows)
    (number_in (word_of (codes "workers") rows))
    (flag_in (word_of (codes "hex") rows))
    (words_of (codes "values") rows)

-- The order of `plain` in what clap found.
abbrev pub plain_in : List Row → OrderText
plain_in rows = plain
    (word_of (codes "circuit") rows)
    (flag_in (word_of (codes "hex") rows))
    (words_of (codes "values") rows)

-- The order of `check` in what clap found.
abbrev pub check_in : List Row → OrderText
check_in rows = check (word_of (codes "circuit") rows)

-- The order of `locate` in what clap found.
abbrev pub locate_in : List Row → OrderText
locate_in rows = locate (word_of (codes "circuit") rows)

-- The order of `stats` in what clap found.
abbrev pub stats_in : List Row → OrderText
stats_in rows = stats (word_of (codes "circuit") rows)

-- The order of `order` in what clap found.
abbrev pub by_depth_in : List Row → OrderText
by_depth_in rows = by_depth (word_of (codes "circuit") rows) (word_of (codes "out") rows)

-- The order of `garble` in what clap found.
abbrev pub garble_in : List Row → OrderText
garble_in rows =
    garble (word_of (codes "circuit") rows) (word_of (codes "seed") rows)
    (word_of (codes "out") rows)
    (version_numbered (number_in (word_of (codes "format") rows)))
    (number_in (word_of (codes "workers") rows))

-- The order of `deal` in what clap found.
abbrev pub deal_in : List Row → OrderText
deal_in rows =
    deal (word_of (codes "circuit") rows) (word_of (codes "seed") rows)
    (number_in (word_of (codes "index") rows))
    (word_of (codes "value") rows) (word_of (codes "out") rows)

-- The order of `eval` in what clap found.
abbrev pub eval_in : List Row → OrderText
eval_in rows = eval
    (word_of (codes "circuit") rows)
    (word_of (codes "garbled") rows)
    (number_in (word_of (codes "workers") rows))
    (flag_in (word_of (codes "hex") rows))
    (words_of (codes "labels") rows)

-- The order of `jobs` in what clap found.
abbrev pub jobs_in : List Row → OrderText
jobs_in rows = jobs
    (word_of (codes "circuit") rows)
    (word_of (codes "list") rows)
    (number_in (word_of (codes "workers") rows))
    (flag_in (word_of (codes "hex") rows))

-- The order of `labels` in what clap found.
abbrev pub labels_in : List Row → OrderText
labels_in rows = list_labels
    (word_of (codes "circuit") rows)
    (word_of (codes "seed") rows)
    (number_in (word_of (codes "from") rows))
    (number_in (word_of (codes "count") rows))
    (words_of (codes "values") rows)

-- The order of `audit` in what clap found.
abbrev pub audit_in : List Row → OrderText
audit_in rows = audit
    (word_of (codes "circuit") rows)
    (word_of (codes "seed") rows)
    (word_of (codes "garbled") rows)
    (words_of (codes "labels") rows)

-- The order of the command of a name, where the program has one.
abbrev pub command_in : List ℕ → List Row → Option OrderText
command_in name rows =
    if bytes_eq name (codes "run") then Some (run_in rows)
    else if bytes_eq name (codes "plain") then Some (plain_in rows)
    else if bytes_eq name (codes "check") then Some (check_in rows)
    else if bytes_eq name (codes "locate") then Some (locate_in rows)
    else if bytes_eq name (codes "stats") then Some (stats_in rows)
    else if bytes_eq name (codes "order") then Some (by_depth_in rows)
    else if bytes_eq name (codes "garble") then Some (garble_in rows)
    else if bytes_eq name (codes "deal") then Some (deal_in rows)
    else if bytes_eq name (codes "eval") then Some (eval_in rows)
    else if bytes_eq name (codes "jobs") then Some (jobs_in rows)
    else if bytes_eq name (codes "labels") then Some (labels_in rows)
    else if bytes_eq name (codes "audit") then Some (audit_in rows)
    else None

-- The order in a command line: that of the command that clap finds in it.
abbrev pub order_in : List (List ℕ) → Option OrderText
order_in words =
    option_and_then (λ command. command_in command.0 command.1) (subcommand_of program words)

-- Whether the command in a command line has the flag `--explain`.
abbrev pub explains_in : List (List ℕ) → Bool
explains_in words =
    option_map_or (λ command. flag_in (word_of (codes "explain") command.1))
    (subcommand_of program words) false
