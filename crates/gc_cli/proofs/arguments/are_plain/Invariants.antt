use Rattle.gc_cli.proofs.Names.{map, string_bytes, length, ArePlain}
use Rattle.gc_cli.proofs.arguments.are_plain.Given as goal

-- the words that are left are plain exactly where all are
abbrev pub invariant-loop-word : goal.invariant-loop-word
invariant-loop-word l = record {
  yes : ArePlain (map string_bytes l.left) → ArePlain (map string_bytes l.words);
  no : ArePlain (map string_bytes l.words) → ArePlain (map string_bytes l.left);
}

abbrev pub decreases-loop-word : goal.decreases-loop-word
decreases-loop-word l = length l.left
