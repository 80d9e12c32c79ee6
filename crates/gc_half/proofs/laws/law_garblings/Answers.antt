use Rattle.gc_half.proofs.GarblingLemmas.{one_garbling, one_evaluation}
use Rattle.gc_half.proofs.CanonicalLemmas.{one_garbled}
use Rattle.gc_half.proofs.laws.law_garblings.Goals as goal

pub returns : goal.returns
returns c = record {
  garblings = λ hash offset. one_garbling hash offset;
  evaluations = one_evaluation;
  under_seed = λ n lawful seed. one_garbled n seed lawful;
}
