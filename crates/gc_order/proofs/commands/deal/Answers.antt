use Rattle.gc_order.proofs.Names.{rules, codes, HasRule, number_word}
use Rattle.gc_order.proofs.commands.deal.Goals as goal

pub returns : goal.returns
returns c =
    let index : HasRule (number_word (codes "index") 0 4294967295) c.value_parser.result =
    search rules in
    let one = c.with_arg-command.ensures _ _ c.command_with_seed-command.ensures index in
    let two = c.with_arg-command-2.ensures _ _ one c.word_arg.ensures in
    c.with_arg.ensures _ _ two c.out_arg.ensures
