use Rattle.gc_lanes.proofs.Names.{arith, below_more, get_or-map}
use Rattle.gc_lanes.proofs.digests.bytes_side_by_side.Goals as goal

pub lengths-preserved : goal.lengths-preserved
lengths-preserved c =
    below_more _ _ (λ j lt. omega (arith, c.lengths.invariant j lt))
    (grind (arith, get_or-map))
