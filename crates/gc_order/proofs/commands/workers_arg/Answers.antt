use Rattle.gc_order.proofs.commands.workers_arg.Goals as goal

pub returns : goal.returns
returns c = c.with_number.ensures _ c.option_arg-workers.ensures
