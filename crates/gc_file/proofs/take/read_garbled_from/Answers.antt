use Rattle.gc_file.proofs.ReaderNames.{◌∙◌, arith, taking_more, taken_fault, taken_all}
use Rattle.gc_file.proofs.take.read_garbled_from.Goals as goal

pub returns-in-Err-feed-clause-all : goal.returns-in-Err-feed-clause-all
returns-in-Err-feed-clause-all g c =
    taken_all _ _ _
    (taken_fault c.loop-reader.reader c.feed.new.self _ c.loop-reader.invariant.taking
    c.in-Err-feed.ensures c.in-Ok.ensures.bytes.0)

pub loop-reader-preserved : goal.loop-reader-preserved
loop-reader-preserved g c =
    let so_far = c.loop-reader.invariant in
    record {
      taking = taking_more c.loop-reader.reader c.feed.new.self _ c.feed.result so_far.taking
          c.feed.ensures c.in_default.not-Err c.in-Ok.ensures.bytes.0
          (omega (arith, c.in-Ok.ensures.bound, c.saturating_add-got.ensures));
      counted = c.in-Ok.ensures.counted ∙ so_far.counted;
    }
