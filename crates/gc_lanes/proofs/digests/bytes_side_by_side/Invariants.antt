use Rattle.gc_lanes.proofs.Names.{◌<◌, ◌≤◌, [], ℕ, get_or, length, map}
use Rattle.gc_lanes.proofs.digests.bytes_side_by_side.Given as goal

abbrev pub invariant-lengths : goal.invariant-lengths
invariant-lengths l = (j : ℕ) → j < l.message-index
    → l.shortest ≤ length (get_or (map (λ message. message.now) l.messages) j [])
