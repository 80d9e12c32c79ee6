use Rattle.gc_netlist.proofs.CanonLemmas.{canonical_law}
use Rattle.gc_netlist.proofs.laws.law_canonical_text.Goals as goal

pub returns : goal.returns
returns c = canonical_law
