use Rattle.gc_order.proofs.commands.run.Goals as goal

pub returns : goal.returns
returns c =
    let one = c.with_arg-command.ensures _ _
    c.command_with_seed-command.ensures c.workers_arg.ensures in
    let two = c.with_arg-command-2.ensures _ _ one c.hex_arg.ensures in
    c.with_arg.ensures _ _ two c.values_arg.ensures
