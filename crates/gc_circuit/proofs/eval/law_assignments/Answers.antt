use Rattle.gc_circuit.proofs.Names.{solution, bit_rule, agree, solution_solves}
use Rattle.gc_circuit.proofs.BitLemmas.{bit_local}
use Rattle.gc_circuit.proofs.eval.law_assignments.Goals as goal

pub returns : goal.returns
returns c = λ n lawful x. record {
  one = (solution bit_rule n x, solution_solves bit_rule bit_local n lawful x);
  no_other = agree bit_rule bit_local n lawful x;
}
