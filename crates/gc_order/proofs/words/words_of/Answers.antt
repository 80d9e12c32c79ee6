use Rattle.gc_order.proofs.Names.{[], ap, ◌∙◌, map, unwrap_or, string_bytes, IfOk-weaker, found_of, raw_values-rows}
use Rattle.gc_order.proofs.words.words_of.Goals as goal

pub returns-in-Some : goal.returns-in-Some
returns-in-Some c =
    let rows = c.in-Some.ensures ∙ raw_values-rows (found_of c.args.found.now) c.args.id.now in
    IfOk-weaker c.copies_of.result _ _
    (λ words copied. copied ∙ ap (λ o. unwrap_or o []) rows) c.copies_of.ensures

pub returns-in-None : goal.returns-in-None
returns-in-None c =
    let rows = c.in-None.ensures ∙ raw_values-rows (found_of c.args.found.now) c.args.id.now in
    ap (map string_bytes) c.new.ensures.items ∙ ap (λ o. unwrap_or o []) rows
