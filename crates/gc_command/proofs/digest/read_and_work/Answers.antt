use Rattle.gc_command.proofs.Names.{of_calls}
use Rattle.gc_command.proofs.digest.read_and_work.Goals as goal

pub returns-clause-made : goal.returns-clause-made
returns-clause-made g c =
    (c.in_ok-circuit.input, rw c.in_ok-circuit.was at c.read.ensures, search of_calls)
