use Rattle.std.proofs.Common.{rules}
use Rattle.gc_half.proofs.HashLemmas.{map-four}
use Rattle.gc_half.proofs.half_gate.eval_four_ands_from.Goals as goal

pub returns : goal.returns
returns c =
    map-four _ c.args.steps _ _ _ _ (search rules)
    c.active.ensures c.active-2.ensures c.active-3.ensures c.active-4.ensures
