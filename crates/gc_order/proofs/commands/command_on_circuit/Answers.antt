use Rattle.gc_order.proofs.Names.{rules, IfOk, codes, new_app, with_rule, HasShape, required_word}
use Rattle.gc_order.proofs.commands.command_on_circuit.Goals as goal

pub returns : goal.returns
returns c =
    let made : IfOk c.arg.result
    (HasShape (with_rule (new_app c.args.name.now) (required_word (codes "circuit")))) =
    search rules in
    c.with_arg.ensures _ _ made c.explain_arg.ensures
