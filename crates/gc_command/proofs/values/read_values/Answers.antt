use Rattle.gc_command.proofs.Names.{[], arith, append-nil, drop_all}
use Rattle.gc_command.proofs.values.read_values.Goals as goal

pub returns-clause-spelled : goal.returns-clause-spelled
returns-clause-spelled g c =
    let no_width = drop_all c.loop-i.i c.args.widths.now (omega arith) in
    let no_text = drop_all c.loop-i.i c.args.texts.now (omega arith) in
    rw append-nil at (c.loop-i.invariant.values [] (rw (no_width, no_text) tt))
