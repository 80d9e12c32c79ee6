use Rattle.gc_order.proofs.commands.garble.Goals as goal

pub returns : goal.returns
returns c =
    let one = c.with_arg-command.ensures _ _
    c.command_with_seed-command.ensures c.out_arg.ensures in
    let two = c.with_arg-command-2.ensures _ _ one (c.with_number.ensures _ c.option_arg-format.ensures) in
    c.with_arg.ensures _ _ two c.workers_arg.ensures
