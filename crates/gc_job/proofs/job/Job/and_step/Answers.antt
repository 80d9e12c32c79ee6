use Rattle.gc_job.proofs.Names.{◌≡◌, length, slice_get, Some, refl, ap, arith, and_number, is_and, row_at, and_number-below, get_or_read}
use Rattle.gc_job.proofs.job.Job.and_step.Goals as goal

pub bounds-rows-k : goal.bounds-rows-k
bounds-rows-k g c =
    let circuit = c.args.self.now.circuit in
    let gate = c.args.read.now.gate in
    let at : slice_get circuit.gates gate ≡ Some c.gate.result =
    rw (← c.circuit.ensures.circuit) c.gate.ensures in
    let below = and_number-below circuit gate c.gate.result at (ap is_and c.in-And.is) in
    let number : c.and_number-k.result ≡ and_number circuit gate =
    rw (← c.requires.wiring) c.and_number-k.ensures in
    omega (arith, ap length c.rows.ensures)

pub returns-in-And : goal.returns-in-And
returns-in-And g c =
    let job = c.args.self.now in
    let gate = c.args.read.now.gate in
    let k = c.and_number-k.result in
    let at : slice_get job.circuit.gates gate ≡ Some c.gate.result =
    rw (← c.circuit.ensures.circuit) c.gate.ensures in
    let number : k ≡ and_number job.circuit gate =
    rw (← c.requires.wiring) c.and_number-k.ensures in
    let below = and_number-below job.circuit gate c.gate.result at (ap is_and c.in-And.is) in
    let row : c.index-rows-k.result ≡ row_at job.rows k =
    rw (← c.rows.ensures) (get_or_read c.rows.result.now k c.index-rows-k.result
    (omega (arith, ap length c.rows.ensures)) c.index-rows-k.is
    (record { generator = 0; evaluator = 0 })) in
    rw (at, c.in-And.is, ← number, ← row) refl
