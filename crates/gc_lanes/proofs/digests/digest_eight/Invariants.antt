use Rattle.gc_lanes.proofs.Names.{◌≡◌, length, map, take, sha256}
use Rattle.gc_lanes.proofs.digests.digest_eight.Given as goal

abbrev pub invariant-messages : goal.invariant-messages
invariant-messages l =
    (length l.digests ≡ 8)
    × (take l.i l.digests ≡ take l.i (map (λ message. sha256 message.now) l.messages))
