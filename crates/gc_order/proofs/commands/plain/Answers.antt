use Rattle.gc_order.proofs.commands.plain.Goals as goal

pub returns : goal.returns
returns c =
    let one =
    c.with_arg-command.ensures _ _ c.command_on_circuit-command.ensures c.hex_arg.ensures in
    c.with_arg.ensures _ _ one c.values_arg.ensures
