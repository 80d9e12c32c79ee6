use Rattle.gc_order.proofs.Names.{◌≡◌, ap, ◌∙◌, sym, subst, refl, true, false, ℕ, List, Option, Some, map, option_map, string_bytes, codes, option_and_then, err_from_is_err_and, App, HasKind, HasMatchesOf, Row, app_of, fault_of, is_simple, subcommand_of, subcommand_rows_of, HasShape, command_in, flag_in, program, word_of}
use Rattle.std.specs.Option.{option_map_or}
use Rattle.clap.specs.Matches.{subcommand_name_of}
use Rattle.clap.specs.Faults.{is_simple_and_free}
use Rattle.clap.specs.declared.builder.command.Command.{Command}
use Rattle.clap.specs.declared.parser.matches.ArgMatches.{ArgMatches}
use Rattle.clap.proofs.OnLiterals.{clap_on_literals}
use Rattle.gc_order.proofs.EnteredLemmas.{entered-one_of}
use Rattle.gc_order.proofs.OrderLemmas.{subcommand-pair}
use Rattle.gc_order.proofs.order.asked_of.Goals as goal

-- clap's rules say what it makes of every line
is_simple-program : is_simple_and_free program ≡ true
unfolding clap_on_literals
is_simple-program = refl

pub returns-clause-kinds : goal.returns-clause-kinds
returns-clause-kinds c =
    let shape = c.in_ok-halfgates.ensures.shape in
    ap (λ a. fault_of a (map string_bytes c.args.words.now)) (sym shape)
    ∙ c.in_ok-matches.ensures.kinds (ap is_simple_and_free shape ∙ is_simple-program)

pub returns-in_err-matches-clause-kinds : goal.returns-in_err-matches-clause-kinds
returns-in_err-matches-clause-kinds c =
    let shape = c.in_ok-halfgates.ensures.shape in
    let Fails : App → Type 0 = λ a.
    HasKind (fault_of a (map string_bytes c.args.words.now)) c.in_err-matches.field-0.0 in
    let p = err_from_is_err_and c.from_residual-in_err-matches.result
    c.from_residual-in_err-matches.ensures.1 in
    rw (p.1, p.2) (subst Fails shape
    (c.in_err-matches.ensures.kinds (ap is_simple_and_free shape ∙ is_simple-program)))

is_simple-alone : is_simple program ≡ true
unfolding clap_on_literals
is_simple-alone = refl

-- the subcommand that clap's rules find, from what its calls return
found-subcommand : (c : Command) (m : ArgMatches) (words : List (List ℕ)) (name : List ℕ)
    (rows : List Row) → HasShape program c → HasMatchesOf (app_of c) words m
    → Some name ≡ subcommand_name_of m → Some rows ≡ option_map (λ p. p.1) (subcommand_rows_of m)
    → subcommand_of program words ≡ Some (name, rows)
found-subcommand c m words name rows is matches named found =
    ap (λ (a : App). subcommand_of a words) (sym is.shape)
    ∙ sym (matches (ap is_simple is.shape ∙ is_simple-alone)).1
    ∙ subcommand-pair _ name rows named found

pub returns-clause-order : goal.returns-clause-order
returns-clause-order c =
    let found = found-subcommand _ _ _ _ _ c.in_ok-halfgates.ensures c.in_ok-matches.ensures.matches
    c.in-Some.ensures.name c.in-Some.ensures.rows in
    ap (λ (o : Option (List ℕ × List Row)). option_and_then (λ p. command_in p.0 p.1) o) found
    ∙ c.in_ok-order-in-Some.ensures

pub named_order-requires : goal.named_order-requires
named_order-requires c =
    entered-one_of (map string_bytes c.args.words.now) _ _
    (found-subcommand _ _ _ _ _ c.in_ok-halfgates.ensures c.in_ok-matches.ensures.matches
    c.in-Some.ensures.name c.in-Some.ensures.rows)

pub returns-clause-explains : goal.returns-clause-explains
returns-clause-explains c =
    let found = found-subcommand _ _ _ _ _ c.in_ok-halfgates.ensures c.in_ok-matches.ensures.matches
    c.in-Some.ensures.name c.in-Some.ensures.rows in
    c.is_flagged-explains.ensures
    ∙ sym (ap (λ (o : Option (List ℕ × List Row)). option_map_or
    (λ command. flag_in (word_of (codes "explain") command.1)) o false) found)
