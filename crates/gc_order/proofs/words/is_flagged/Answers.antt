use Rattle.gc_order.proofs.Names.{ap, ◌∙◌, found_of, first_value-rows, flag_in}
use Rattle.gc_order.proofs.OrderLemmas.{unwrap_or-now}
use Rattle.gc_order.proofs.words.is_flagged.Goals as goal

pub returns : goal.returns
returns c =
    let first = first_value-rows (found_of c.args.found.now) c.args.id.now in
    c.flag_in.ensures
    ∙ ap flag_in (unwrap_or-now _ _ _ _ c.unwrap_or.ensures (c.get_str.ensures ∙ first))
