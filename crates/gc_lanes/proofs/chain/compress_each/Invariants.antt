use Rattle.gc_lanes.proofs.Names.{◌≡◌, List, ℕ, hash_after, AreSchedules}
use Rattle.gc_lanes.proofs.chain.compress_each.Given as goal

abbrev pub invariant-chain : goal.invariant-chain
invariant-chain l = (p : List ℕ) → AreSchedules l.rows p
    → l.hash ≡ hash_after l.fn.hash p l.block
