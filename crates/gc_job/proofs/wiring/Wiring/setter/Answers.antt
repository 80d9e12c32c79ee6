use Rattle.gc_job.proofs.Names.{◌≡◌, ◌<◌, ◌+◌, ◌-◌, get_or, arith, sym, ◌∙◌, IsSetBy, input_wires, get_or_default}
use Rattle.gc_job.proofs.WiringLemmas.{set_within}
use Rattle.gc_job.proofs.wiring.Wiring.setter.Given.{Over}
use Rattle.gc_job.proofs.wiring.Wiring.setter.Goals.{After-index-after}
use Rattle.gc_job.proofs.wiring.Wiring.setter.Goals as goal

-- The wire isn't an input wire,
place : (g : Over) (c : After-index-after g)
    → c.args.wire ≡ input_wires c.self.inside.circuit.now
    + (c.args.wire - c.input_wires-inputs.result)
place g c = omega (arith, c.input_wires-inputs.ensures, c.if-wire-inputs.false)

-- and what was read is what the table has for it.
found : (g : Over) (c : After-index-after g)
    → get_or c.self.inside.setters.items (c.args.wire - c.input_wires-inputs.result) 0
    ≡ c.index-after.result.now
found g c =
    let room : c.args.wire < c.self.inside.circuit.now.wires = rw c.self.view_is c.requires in
    get_or_default c.self.inside.setters.items (c.args.wire - c.input_wires-inputs.result) 0
    c.index-after.result.now (omega (arith, c.self.invariant.setters.count, place g c))
    ∙ sym c.index-after.ensures

pub returns-then-after-eq0-clause-none : goal.returns-then-after-eq0-clause-none
returns-then-after-eq0-clause-none g c = λ gate by.
    let shared = (goal.at.returns-then-after-eq0-clause-none g c).After-index-after in
    let circuit = c.self.inside.circuit.now in
    let i = c.args.wire - c.input_wires-inputs.result in
    let mine : IsSetBy circuit (input_wires circuit + i) gate =
    rw (← place g shared, c.self.view_is) by in
    let within = set_within circuit (input_wires circuit + i) gate mine in
    let is = c.self.invariant.setters.set i gate within mine in
    absurd (omega (arith, is, found g shared, c.if-after-eq0.true))

pub returns-else-after-eq0-clause-some : goal.returns-else-after-eq0-clause-some
returns-else-after-eq0-clause-some g c =
    let shared = (goal.at.returns-else-after-eq0-clause-some g c).After-index-after in
    let i = c.args.wire - c.input_wires-inputs.result in
    rw (← c.self.view_is, place g shared) (c.self.invariant.setters.setter i _
    (omega (arith, found g shared, c.if-after-eq0.false)))
