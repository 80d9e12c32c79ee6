use Rattle.gc_cli.proofs.Names.{◌≡◌, ◌++◌, map, string_bytes, take}
use Rattle.gc_cli.proofs.arguments.push_copies.Given as goal

abbrev pub invariant-loop-word : goal.invariant-loop-word
invariant-loop-word g l =
    map string_bytes l.arguments.items
    ≡ map string_bytes l.fn.arguments.items ++ map string_bytes (take l.word-index l.words)
