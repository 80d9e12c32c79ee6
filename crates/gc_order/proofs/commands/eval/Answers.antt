use Rattle.gc_order.proofs.commands.eval.Goals as goal

pub returns : goal.returns
returns c =
    let one = c.with_arg-command.ensures _ _
    c.command_on_circuit-command.ensures c.garbled_arg.ensures in
    let two = c.with_arg-command-2.ensures _ _ one c.workers_arg.ensures in
    let three = c.with_arg-command-3.ensures _ _ two c.hex_arg.ensures in
    c.with_arg.ensures _ _ three c.labels_arg.ensures
