use Rattle.gc_bank.proofs.Names.{◌≡◌, length, map, AreKnown}
use Rattle.gc_bank.proofs.apart.evaluate_share.Given as goal

abbrev pub invariant-loop-group : goal.invariant-loop-group
invariant-loop-group g l =
    AreKnown (map (λ job. job) l.part) l.share × (length l.share ≡ length l.fn.share)
