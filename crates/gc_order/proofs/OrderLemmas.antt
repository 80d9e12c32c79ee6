-- What clap found in a line.
use Rattle.gc_order.proofs.Names.{◌≡◌, List, ℕ, Option, Some, None, option_map, unwrap_or, Bor, Box, Row, subcommand_rows}
use Rattle.std.specs.Box.{box_value}
use Rattle.clap.specs.declared.parser.matches.SubCommand.{SubCommand}
use Rattle.clap.specs.declared.parser.matches.ArgMatches.TheViews.{out-SubCommand}

-- what a reference points to, where there is one
pub unwrap_or-now : (word : Option (Bor (List ℕ))) (other got : Bor (List ℕ))
    (found : Option (List ℕ)) → got ≡ unwrap_or word other → option_map (λ s. s.now) word ≡ found
    → got.now ≡ unwrap_or found other.now
unwrap_or-now None other got found is e = rw (is, ← e)
unwrap_or-now (Some word) other got found is e = rw (is, ← e)

-- the subcommand of a parse, from its name and its matches
pub subcommand-pair : {Z : Type 0} (s : Option (Box SubCommand Z)) (name : List ℕ) (rows : List Row)
    → Some name ≡ option_map (λ b. (out-SubCommand (box_value b)).name.now) s
    → Some rows ≡ option_map (λ p. p.1) (subcommand_rows s) → subcommand_rows s ≡ Some (name, rows)
subcommand-pair None name rows named found = cc
subcommand-pair (Some b) name rows named found = cc
