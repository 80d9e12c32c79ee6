use Rattle.gc_command.proofs.Names.{◌≡◌, drop, tokens}
use Rattle.gc_command.proofs.job_list.has_words.Given as goal

-- No blank is in a token.
abbrev pub invariant-loop-byte : goal.invariant-loop-byte
invariant-loop-byte l = tokens (drop l.byte-index l.byte-items) ≡ tokens l.byte-items
