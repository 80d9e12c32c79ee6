use Rattle.gc_order.proofs.commands.order.Goals as goal

pub returns : goal.returns
returns c = c.with_arg.ensures _ _ c.command_on_circuit-command.ensures c.out_arg.ensures
