use Rattle.gc_command.proofs.Names.{IfSome_then}
use Rattle.gc_command.proofs.WroteLemmas.{written-line}
use Rattle.gc_command.proofs.seeded_circuit.SeededCircuit.write_value.Goals as goal

pub returns-clause-written : goal.returns-clause-written
returns-clause-written g c = λ n.
    rw (← c.as_str-out.ensures.value)
    (IfSome_then (g.F.Files.bytes c.args.files.now n) (c.in_ok-sink.ensures.empty n)
    (λ known empty. written-line _ _ _ _ c.wrote_line.ensures
    (c.in_ok-count.ensures.written _ (rw empty at c.write_labels-written.ensures.file))))
