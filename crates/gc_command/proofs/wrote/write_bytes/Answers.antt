use Rattle.gc_command.proofs.Names.{◌∙◌, arith, Appends-trans, take-add, take_rest}
use Rattle.gc_command.proofs.wrote.write_bytes.Goals as goal

pub loop-sent-preserved : goal.loop-sent-preserved
loop-sent-preserved g c =
    let put = c.in-Ok.ensures in let so_far = c.loop-sent.invariant in
    let bytes = c.args.bytes.now in (
      omega (arith, put.bound),
      rw (take-add c.loop-sent.sent c.in-Ok.n bytes)
          (Appends-trans _ _ _ _ _ so_far.1 (rw (take_rest bytes c.loop-sent.sent) at put.bytes)),
      put.counted ∙ so_far.2,
    )
