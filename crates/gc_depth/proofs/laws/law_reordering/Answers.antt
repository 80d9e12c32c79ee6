use Rattle.gc_depth.proofs.LawLemmas.{computes_same}
use Rattle.gc_depth.proofs.laws.law_reordering.Goals as goal

pub returns : goal.returns
returns c = computes_same
