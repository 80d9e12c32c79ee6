use Rattle.gc_order.proofs.Names.{◌∙◌}
use Rattle.gc_order.proofs.NumberLemmas.{number-parsed}
use Rattle.gc_order.proofs.words.number_in.Goals as goal

pub returns : goal.returns
returns c =
    c.unwrap_or.ensures ∙ number-parsed c.args.text.now c.parse.result c.parse.ensures.value.0
