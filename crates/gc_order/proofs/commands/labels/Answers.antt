use Rattle.gc_order.proofs.commands.labels.Goals as goal

pub returns : goal.returns
returns c =
    let one = c.with_arg-command.ensures _ _
    c.command_with_seed-command.ensures (c.with_number.ensures _ c.option_arg-from.ensures) in
    let two = c.with_arg-command-2.ensures _ _ one (c.with_number-2.ensures _ c.option_arg-count.ensures) in
    c.with_arg.ensures _ _ two c.values_arg.ensures
