use Rattle.gc_order.proofs.commands.command_with_seed.Goals as goal

pub returns : goal.returns
returns c =
    c.with_arg.ensures _ _ c.command_on_circuit-command.ensures c.word_arg.ensures
