use Rattle.gc_command.proofs.Names.{garbled_file, honest_parts_with, IfSome_then}
use Rattle.gc_command.proofs.WroteLemmas.{written-line}
use Rattle.gc_command.proofs.garble.write_garbling.Goals as goal

pub returns-clause-written : goal.returns-clause-written
returns-clause-written g c = λ n.
    rw (← c.as_str-out.ensures.value)
    (IfSome_then (g.F.Files.bytes c.args.files.now n) (c.in_ok-sink.ensures.empty n)
    (λ known empty. written-line _ _ _ _ c.wrote_line.ensures
    (c.in_ok-count.ensures.written (garbled_file (honest_parts_with c.args.of.now.version
    c.args.of.now.circuit.now c.args.of.now.garbling.now c.args.of.now.offset))
    (rw empty at c.write_garbled_file-written.ensures.file))))
