use Rattle.gc_order.proofs.commands.audit.Goals as goal

pub returns : goal.returns
returns c =
    let one = c.with_arg-command.ensures _ _
    c.command_with_seed-command.ensures c.garbled_arg.ensures in
    c.with_arg.ensures _ _ one c.labels_arg.ensures
