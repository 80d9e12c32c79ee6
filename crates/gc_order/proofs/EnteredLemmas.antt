-- The subcommand that a parse enters is one of the command's.
use Rattle.gc_order.proofs.Names.{◌≡◌, ◌∙◌, ap, sym, refl, List, [], ◌∷◌, ℕ, Bool, true, false, cond, ◌||◌, Option, Some, None, option_and_then, option_map, unwrap_or, find, bytes_eq, App, Row, Shape, built, subcommand_of, program}
use Rattle.std.specs.List.{list_any}
use Rattle.std.proofs.Math.Bool.{or-true}
use Rattle.std.proofs.lemmas.Slice.Eq.{bytes_eq-Decides}
use Rattle.clap.specs.Simple.{argument_words, label_of, names_of, rows_at}
use Rattle.clap.specs.Walk.{answers_to, stop_after}
use Rattle.clap.proofs.OnLiterals.{clap_on_literals}

abbrev is_one_of : List ℕ → List Shape → Bool
is_one_of name subs = list_any (λ (s : Shape). bytes_eq name s.name) subs

first_or_later : (words : List (List ℕ)) (s : Shape) (later : Option Shape) (name : List ℕ)
    (rows : List Row) (here others : Bool)
    → option_map (λ t. rows_at t words) (cond here (Some s) later) ≡ Some (name, rows)
    → (option_map (λ t. rows_at t words) later ≡ Some (name, rows) → others ≡ true)
    → (bytes_eq name s.name || others) ≡ true
first_or_later words s later name rows true others e among =
    let same : s.name ≡ name =
    ap (λ (o : Option (List ℕ × List Row)). (unwrap_or o (name, rows)).0) e in
    rw ((bytes_eq-Decides name s.name).1 (sym same))
first_or_later words s later name rows false others e among =
    rw (among e) (or-true (bytes_eq name s.name))

found-one_of : (words : List (List ℕ)) (is : Shape → Bool) (subs : List Shape) (name : List ℕ)
    (rows : List Row) → option_map (λ s. rows_at s words) (find is subs) ≡ Some (name, rows)
    → is_one_of name subs ≡ true
found-one_of words is [] name rows e = absurd (cc)
found-one_of words is (s ∷ subs) name rows e =
    first_or_later words s (find is subs) name rows (is s) (is_one_of name subs) e
    (found-one_of words is subs name rows)

stopped-one_of : (a : App) (stop : Option (List ℕ × List (List ℕ))) (name : List ℕ)
    (rows : List Row)
    → option_and_then (λ p. option_map (λ s. rows_at s p.1)
    (find (λ s. answers_to p.0 (label_of s)) a.subs)) stop ≡ Some (name, rows)
    → is_one_of name a.subs ≡ true
stopped-one_of a None name rows e = absurd (cc)
stopped-one_of a (Some p) name rows e =
    found-one_of p.1 (λ s. answers_to p.0 (label_of s)) a.subs name rows e

-- building the program adds no subcommand
built_names : (name : List ℕ) → is_one_of name (built program).subs ≡ is_one_of name program.subs
unfolding clap_on_literals
built_names name = refl

pub entered-one_of : (words : List (List ℕ)) (name : List ℕ) (rows : List Row)
    → subcommand_of program words ≡ Some (name, rows)
    → list_any (λ (s : Shape). bytes_eq name s.name) program.subs ≡ true
entered-one_of words name rows e =
    let app = built program in
    let stop = stop_after app.top.rules (names_of app) (argument_words program words) in
    sym (built_names name) ∙ stopped-one_of app stop name rows e
