use Rattle.gc_lanes.proofs.Names.{◌∙◌, arith, below_more}
use Rattle.gc_lanes.proofs.block.tweak_word.Goals as goal

pub loop-j-preserved : goal.loop-j-preserved
loop-j-preserved g c =
    below_more _ _
    (λ j lt. c.with_word-words.ensures.others j (omega arith) ∙ c.loop-j.invariant j lt)
    (cc)
