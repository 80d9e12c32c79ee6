use Rattle.gc_half.proofs.Names.{arith, common_steps, table_padded}
use Rattle.gc_half.proofs.labels.padded_labels.Goals as goal

pub returns : goal.returns
returns g c =
    let given = c.in_ok-extend_from_slice.ensures.items in
    let filled = c.in_ok-resize.ensures.items in
    let padded = table_padded c.args.inputs.now c.args.wires 0 c.requires in
    grind (arith, common_steps)
