use Rattle.std.proofs.Common.{◌∙◌, ◌<◌, length, arith}
use Rattle.gc_job.proofs.DecodeLemmas.{decode_next}
use Rattle.gc_job.proofs.decode.decoded.Goals as goal

pub loop-i-preserved : goal.loop-i-preserved
loop-i-preserved g c =
    let inside : c.loop-i.i < length c.args.labels.now = omega arith in
    c.in_ok-push.ensures.items
    ∙ rw c.colour.ensures (decode_next _ _ c.loop-i.i _ _ (omega (arith, c.requires)) inside
    c.index-labels-i.is c.loop-i.invariant)
