use Rattle.gc_circuit.proofs.Names.{[]}
use Rattle.gc_circuit.proofs.circuit.Circuit.canon.Goals as goal

pub returns : goal.returns
returns g c = c.in_ok-write_canonical.ensures [] c.new-text.ensures.items
