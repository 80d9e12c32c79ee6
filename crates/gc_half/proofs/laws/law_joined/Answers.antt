use Rattle.gc_half.proofs.JoinedLemmas.{following-decodes, joined-decodes}
use Rattle.gc_half.proofs.LabelsLemmas.{labels-stand, together-stand}
use Rattle.gc_half.proofs.laws.law_joined.Goals as goal

pub returns : goal.returns
returns c = record {
  labels = labels-stand;
  together = together-stand;
  following = following-decodes;
  joined = joined-decodes;
}
