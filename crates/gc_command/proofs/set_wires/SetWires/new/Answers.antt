use Rattle.gc_command.proofs.Names.{arith, length-table}
use Rattle.gc_command.proofs.WireLemmas.{all_left}
use Rattle.gc_command.proofs.set_wires.SetWires.new.Goals as goal

pub invariant_of-result : goal.invariant_of-result
invariant_of-result g c =
    omega (arith, length-table _ _ _ c.in_ok-is_set.ensures, c.law_lawful.ensures.few_wires)

pub returns : goal.returns
returns g c = all_left c.args.circuit.now _ _ _ c.in_ok-is_set.ensures
