use Rattle.gc_job.proofs.Names.{length, ◌<◌, ◌∙◌, length-map-range_with_len, and_number, read-table, arith, ap}
use Rattle.gc_job.proofs.wiring.Wiring.and_number.Goals as goal

pub index-requires : goal.index-requires
index-requires g c =
    let circuit = c.self.inside.circuit.now in
    let room : c.args.gate < length circuit.gates = rw c.self.view_is c.requires in
    let count = rw length-map-range_with_len at (ap length c.self.invariant.numbers) in
    omega arith

pub returns : goal.returns
returns g c =
    let circuit = c.self.inside.circuit.now in
    rw (← c.self.view_is) ((rw c.self.invariant.numbers at c.index.ensures)
    ∙ read-table (and_number circuit) (length circuit.gates) c.args.gate c.index.result.now
    (rw c.self.view_is c.requires))
