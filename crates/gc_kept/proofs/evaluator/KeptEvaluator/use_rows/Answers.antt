use Rattle.gc_kept.proofs.Names.{take_rest, take, drop, ap, take-add, arith, length-drop, length-take-le, and_count}
use Rattle.gc_kept.proofs.StreamingLemmas.{uses-more}
use Rattle.gc_kept.proofs.PieceLemmas.{length_rows}
use Rattle.gc_kept.proofs.evaluator.KeptEvaluator.use_rows.Goals as goal

pub use_some-used-requires : goal.use_some-used-requires
use_some-used-requires c =
    let l = c.loop-used in
    let bytes = c.args.bytes.now in
    let uses = l.invariant.uses in
    rw take_rest (record {
      left = omega (
        arith,
        rw (← uses.piece_is.spelled) at (length_rows uses.piece),
        length-take-le l.used bytes l.invariant.within,
        ap and_count uses.circuit,
        length-drop l.used bytes,
      );
    })

pub loop-used-preserved : goal.loop-used-preserved
loop-used-preserved c =
    let l = c.loop-used in
    let bytes = c.args.bytes.now in
    let some = c.use_some-used in
    let most = rw take_rest at some.ensures.most in
    record {
      uses = rw (take-add l.used some.result bytes) (uses-more c.args.self.now l.self some.new.self
          (take l.used bytes) (take some.result (drop l.used bytes)) l.invariant.uses
          (rw take_rest at some.ensures.uses));
      within = omega (arith, length-drop l.used bytes);
      whole = omega arith;
    }
