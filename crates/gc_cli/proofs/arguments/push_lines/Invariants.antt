use Rattle.gc_cli.proofs.Names.{◌≡◌, ◌++◌, ℕ, List, map, string_bytes, length, AreLines}
use denote.Text.{Utf8}
use denote.Shadow.{shadow}
use Rattle.gc_cli.proofs.arguments.push_lines.Given as goal

-- the lines so far are added, and with those of the rest they are the text's
abbrev pub invariant-loop-line : goal.invariant-loop-line
invariant-loop-line g l = record {
  utf8 : shadow (Utf8 l.rest);
  lines : (given : List (List ℕ))
      × ((map string_bytes l.arguments.items ≡ map string_bytes l.fn.arguments.items ++ given)
      × ((more : List (List ℕ)) → AreLines l.rest more → AreLines l.fn.text (given ++ more)));
}

abbrev pub decreases-loop-line : goal.decreases-loop-line
decreases-loop-line g l = length l.rest
