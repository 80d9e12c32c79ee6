use Rattle.gc_circuit.proofs.Names.{◌≡◌, rules, slice_eq-Decides, Gate}
use Rattle.std.specs.Bool.{Decides}
use Rattle.gc_netlist.specs.contracts.gate.GatePartialEq.TheImpl as gates
use Rattle.gc_circuit.proofs.circuit.same_gates.Goals as goal

same : (a b : Gate) → Decides (gates.eq-value.it a b) (a ≡ b)
same a b = search rules

pub returns : goal.returns
returns c = slice_eq-Decides same _ _ _ c.eq.ensures
