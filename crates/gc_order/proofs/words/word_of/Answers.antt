use Rattle.gc_order.proofs.Names.{◌∙◌, IfOk-weaker, found_of, first_value-rows}
use Rattle.gc_order.proofs.OrderLemmas.{unwrap_or-now}
use Rattle.gc_order.proofs.words.word_of.Goals as goal

pub returns : goal.returns
returns c =
    let first = first_value-rows (found_of c.args.found.now) c.args.id.now in
    let found = unwrap_or-now _ _ _ _ c.unwrap_or.ensures (c.get_str.ensures ∙ first) in
    IfOk-weaker c.from_str.result _ _ (λ word copied. copied ∙ found) c.from_str.ensures.ok
