use Rattle.std.proofs.Common.{◌+◌, ◌*◌, arith}
use Rattle.gc_lanes.proofs.Chains.{lane-word}
use Rattle.gc_lanes.proofs.Turning.{below_eight}
use Rattle.gc_lanes.proofs.chain.row_of_blocks.Goals as goal

pub returns : goal.returns
returns c =
    let p = c.args.blocks.now in
    let t = c.args.t in
    let lt = c.requires.first in
    below_eight _
    (lane-word p 0 t (4 * t) _ c.word_of.type_inv c.word_of.ensures lt (omega arith))
    (lane-word p 1 t (4 * t + 64) _ c.word_of-2.type_inv c.word_of-2.ensures lt (omega arith))
    (lane-word p 2 t (4 * t + 128) _ c.word_of-3.type_inv c.word_of-3.ensures lt (omega arith))
    (lane-word p 3 t (4 * t + 192) _ c.word_of-4.type_inv c.word_of-4.ensures lt (omega arith))
    (lane-word p 4 t (4 * t + 256) _ c.word_of-5.type_inv c.word_of-5.ensures lt (omega arith))
    (lane-word p 5 t (4 * t + 320) _ c.word_of-6.type_inv c.word_of-6.ensures lt (omega arith))
    (lane-word p 6 t (4 * t + 384) _ c.word_of-7.type_inv c.word_of-7.ensures lt (omega arith))
    (lane-word p 7 t (4 * t + 448) _ c.word_of-8.type_inv c.word_of-8.ensures lt (omega arith))
