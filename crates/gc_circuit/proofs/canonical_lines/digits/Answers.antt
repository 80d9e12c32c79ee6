use Rattle.gc_circuit.proofs.Names.{decimal, arith, common_steps}
use Rattle.gc_circuit.proofs.LineLemmas.{digits_last}
use Rattle.gc_circuit.proofs.canonical_lines.digits.Goals as goal

pub returns : goal.returns
returns c = grind (arith, common_steps, digits_last 4096 (decimal c.args.number) c.args.room.now)
