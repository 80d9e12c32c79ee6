use Rattle.gc_job.proofs.Names.{arith, IsSetBy}
use Rattle.gc_job.proofs.WiringLemmas.{not_set_below_more, set_within}
use Rattle.gc_job.proofs.job.Job.setter.Goals as goal

pub loop-gate-preserved : goal.loop-gate-preserved
loop-gate-preserved g c =
    not_set_below_more _ c.args.wire _ _ c.gate.ensures c.if-gate-wire.false c.loop-gate.invariant

pub returns-clause-none : goal.returns-clause-none
returns-clause-none g c = λ h by.
    let circuit = c.circuit-circuit.result.now in
    let mine : IsSetBy circuit c.args.wire h = rw c.circuit-circuit.ensures.circuit by in
    c.loop-gate.invariant h (omega (arith, set_within circuit c.args.wire h mine)) mine
