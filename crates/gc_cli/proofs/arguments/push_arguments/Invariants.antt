use Rattle.gc_cli.proofs.Names.{◌≡◌, ◌++◌, ℕ, List, map, string_bytes, length, FrontStandsFor}
use Rattle.gc_cli.proofs.arguments.push_arguments.Given as goal

-- the arguments so far are those that the words in front stand for
abbrev pub invariant-loop-files : goal.invariant-loop-files
invariant-loop-files g l = record {
  same : (name : List ℕ) → g.F.Files.bytes l.files name ≡ g.F.Files.bytes l.fn.files name;
  unfailed : g.F.Files.failures l.files ≡ g.F.Files.failures l.fn.files;
  front : (given : List (List ℕ))
      × ((map string_bytes l.arguments.items ≡ map string_bytes l.fn.arguments.items ++ given)
      × ((more left : List (List ℕ))
      → FrontStandsFor (g.F.Files.bytes l.fn.files) (map string_bytes l.left) more left
      → FrontStandsFor (g.F.Files.bytes l.fn.files) (map string_bytes l.fn.words) (given ++ more)
      left));
}

abbrev pub decreases-loop-files : goal.decreases-loop-files
decreases-loop-files g l = length l.left
