use Rattle.gc_netlist.proofs.ReadingLaws.{reading_law}
use Rattle.gc_netlist.proofs.laws.law_reading.Goals as goal

pub returns : goal.returns
returns c = reading_law
