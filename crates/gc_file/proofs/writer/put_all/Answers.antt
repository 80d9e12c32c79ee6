use Rattle.gc_file.proofs.WriterNames.{◌∙◌, arith, Appends-trans, take-add, take_rest}
use Rattle.gc_file.proofs.writer.put_all.Goals as goal

pub loop-done-preserved : goal.loop-done-preserved
loop-done-preserved g c =
    let put = c.in-Ok.ensures in let so_far = c.loop-done.invariant in
    let piece = c.args.piece.now in (
      omega (arith, put.bound),
      rw (take-add c.loop-done.done c.in-Ok.n piece)
          (Appends-trans _ _ _ _ _ so_far.1 (rw (take_rest piece c.loop-done.done) at put.bytes)),
      put.counted ∙ so_far.2,
    )
