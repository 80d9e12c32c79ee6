use Rattle.gc_command.proofs.Names.{◌≡◌, map, take}
use Rattle.gc_command.proofs.job_list.words_of_line.Given as goal

abbrev pub invariant-loop-token : goal.invariant-loop-token
invariant-loop-token g l =
    map (λ word. word.now) l.words.items ≡ take l.token-index (map (λ part. part.now) l.token-items)
