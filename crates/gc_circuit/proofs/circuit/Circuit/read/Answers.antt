use Rattle.gc_circuit.proofs.Names.{Ok, Err}
use Rattle.gc_netlist.proofs.ReadingLaws.{read_exactly}
use Rattle.gc_circuit.proofs.circuit.Circuit.read.Goals as goal

pub returns-in-Ok-clause-exactly : goal.returns-in-Ok-clause-exactly
returns-in-Ok-clause-exactly g c = read_exactly c.args.text.now (Ok c.in-Ok.circuit)
    (rw c.new-tokens.ensures.all at c.in-Ok.ensures.reading)

pub returns-in-Err-clause-exactly : goal.returns-in-Err-clause-exactly
returns-in-Err-clause-exactly g c = read_exactly c.args.text.now (Err c.in-Err.stop.fault)
    (rw c.new-tokens.ensures.all at c.in-Err.ensures.reading)
