use Rattle.gc_job.proofs.Names.{◌≡◌, length, slice_get, Some, ap, arith, and_number-below}
use Rattle.gc_job.proofs.job.Job.active_at.Goals as goal

pub evaluate_gate-requires : goal.evaluate_gate-requires
evaluate_gate-requires g c = λ is_and.
    let circuit = c.args.self.now.circuit in
    let at : slice_get circuit.gates c.args.read.now.gate ≡ Some c.gate-operation.result =
    rw (← c.circuit.ensures.circuit) c.gate-operation.ensures in
    let below = and_number-below circuit c.args.read.now.gate c.gate-operation.result at is_and in
    omega (arith, ap length c.rows.ensures)
