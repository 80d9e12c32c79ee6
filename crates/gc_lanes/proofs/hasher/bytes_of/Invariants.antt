use Rattle.gc_lanes.proofs.Names.{◌≡◌, ◌*◌, length, take, digest_bytes}
use Rattle.gc_lanes.proofs.hasher.bytes_of.Given as goal

abbrev pub invariant-words : goal.invariant-words
invariant-words l = (length l.bytes ≡ 32) × (take (4 * l.i) l.bytes ≡ digest_bytes l.hash l.i)
