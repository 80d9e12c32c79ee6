use Rattle.gc_circuit.proofs.Names.{[]}
use Rattle.gc_circuit.proofs.circuit.Circuit.digest.Goals as goal

pub returns : goal.returns
returns g c = c.finalize.ensures _ (c.in-Ok.ensures [] c.new-hasher.ensures)
