use Rattle.gc_lanes.proofs.Names.{arith, refl, rounds_first}
use Rattle.gc_lanes.proofs.OneBlock.{lane_at}
use Rattle.gc_lanes.proofs.compression.round_of_block.Goals as goal

pub returns : goal.returns
returns g c = λ j b h lt window held.
    let word = lane_at g.W.Words.lane j c.args.window.now c.args.t _ (omega arith) in
    rounds_first b h _ _ c.args.t _ _ _ c.requires window held refl word (c.round.ensures j lt)
