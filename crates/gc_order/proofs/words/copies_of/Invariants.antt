use Rattle.gc_order.proofs.Names.{◌≡◌, map, take, string_bytes}
use Rattle.gc_order.proofs.words.copies_of.Given as goal

abbrev pub invariant-loop-word : goal.invariant-loop-word
invariant-loop-word l =
    map string_bytes l.copies.items ≡ map (λ word. word.now) (take l.word-index l.words)
