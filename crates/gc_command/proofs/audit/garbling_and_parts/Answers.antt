use Rattle.gc_command.proofs.Names.{garbled-HasLabels}
use Rattle.gc_command.proofs.audit.garbling_and_parts.Goals as goal

pub returns-then-not-are_counts_right-clause-labels :
    goal.returns-then-not-are_counts_right-clause-labels
returns-then-not-are_counts_right-clause-labels g c =
    garbled-HasLabels c.args.circuit.now c.args.seed.now c.law_lawful.ensures
    c.in_ok-garble_one_thread.field-0 c.in_ok-garble_one_thread.ensures
