use Rattle.std.proofs.Common.{◌≡◌, ◌-◌, length, arith}
use Rattle.gc_job.proofs.WiringLemmas.{more_setters, past_inputs}
use Rattle.gc_job.proofs.wiring.setters.Goals as goal

pub loop-i-preserved : goal.loop-i-preserved
loop-i-preserved g c =
    let past = past_inputs _ c.loop-i.i _ c.wires.ensures.lawful c.gate.ensures in
    more_setters _ c.loop-i.i (c.gate.result.set - c.input_wires-inputs.result) _ _
    c.wires.ensures.lawful c.gate.ensures (omega (arith, c.input_wires-inputs.ensures))
    c.loop-i.invariant

pub returns : goal.returns
returns g c =
    let whole : c.loop-i.i ≡ length c.args.circuit.now.gates = omega arith in
    rw (← whole) c.loop-i.invariant
