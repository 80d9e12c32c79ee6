use Rattle.gc_half.proofs.Names.{◌∙◌, hash}
use Rattle.gc_half.proofs.NumberedLemmas.{and_garbled-zero}
use Rattle.gc_half.proofs.half_gate.garble_two_ands.Goals as goal

pub returns-clause-other : goal.returns-clause-other
returns-clause-other c =
    c.garble_two_ands_from-one.ensures.other ∙ and_garbled-zero hash c.args.other.k _ _ _
