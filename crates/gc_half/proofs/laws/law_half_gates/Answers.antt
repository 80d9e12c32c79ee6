use Rattle.gc_half.proofs.CircuitLaw.{garbling-decodes}
use Rattle.gc_half.proofs.laws.law_half_gates.Goals as goal

pub returns : goal.returns
returns c = garbling-decodes
