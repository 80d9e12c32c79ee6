use Rattle.gc_lanes.proofs.Names.{◌≡◌, ◌*◌, hash_after}
use Rattle.gc_lanes.proofs.chain.compress_eights.Given as goal

abbrev pub invariant-parts : goal.invariant-parts
invariant-parts l = l.hash ≡ hash_after l.fn.hash l.blocks (8 * l.part)
