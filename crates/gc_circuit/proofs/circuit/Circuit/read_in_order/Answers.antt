use Rattle.gc_circuit.proofs.Names.{◌≡◌, ◌-◌, true, drop, length, Ok, refl, sym, ap, ◌∙◌, arith, list_all, err_of, Netlist, netlist_of, check_end, circuit_of, count_met, wires_met, inputs_met, outputs_due_met, circuit_of-lawful, circuit_of-spelled}
use Rattle.gc_circuit.proofs.CheckLemmas.{marks_len}
use Rattle.gc_circuit.proofs.ReadLemmas.{ReadSteps, last_steps}
use Rattle.gc_circuit.proofs.MetLemmas.{gates_met, unset_met_by, end_met_by}
use Rattle.gc_circuit.proofs.circuit.Circuit.read_in_order.Given.{Over}
use Rattle.gc_circuit.proofs.circuit.Circuit.read_in_order.Goals.{After-deref}
use Rattle.gc_circuit.proofs.circuit.Circuit.read_in_order.Goals as goal

-- The circuit that was read,
abbrev read : (g : Over) → After-deref g → Netlist
read g c = netlist_of c.in_ok-wires.wires c.in_ok-inputs.inputs.widths.items
    c.in_ok-outputs.outputs.widths.items c.in_ok-body.body.gates.items

-- and the steps of reading it.
steps : (g : Over) (c : After-deref g) →
    ReadSteps c.args.tokens.now.left (read g c) c.read_gates.new.tokens.left
    c.in_ok-outputs.outputs.sum c.deref.result.now
steps g c = record {
  after_count = c.number_up_to.new.self.left;
  after_wires = c.number_up_to-2.new.self.left;
  after_inputs = c.read_widths.new.tokens.left;
  after_outputs = c.read_widths-2.new.tokens.left;
  count = c.in_ok-count.count;
  count_read = c.in_ok-count.ensures.number;
  wires_read = c.in_ok-wires.ensures.number;
  inputs_read = c.in_ok-inputs.ensures.read;
  outputs_read = c.in_ok-outputs.ensures.read;
  gates_read = rw (← c.in_ok-inputs.ensures.sums) c.in_ok-body.ensures.read;
  sums = c.in_ok-outputs.ensures.sums;
  fits = c.in_ok-outputs.ensures.fits;
  marks = rw (c.deref.ensures.value, ← c.in_ok-inputs.ensures.sums)
      c.in_ok-body.ensures.marked.table;
}

pub check_outputs-requires : goal.check_outputs-requires
check_outputs-requires g c =
    let len = marks_len _ _ _ _ c.in_ok-body.ensures.marked.table in
    let same = ap length c.deref.ensures.value in
    record {
      fits = omega (arith, c.in_ok-outputs.ensures.fits);
      small = omega (arith, c.in_ok-wires.ensures.within);
    }

pub returns-in_err-count-clause-met : goal.returns-in_err-count-clause-met
returns-in_err-count-clause-met g c =
    let p = err_of c.from_residual.result c.from_residual.ensures.1 in
    let e = c.in_err-count.ensures in
    rw (p.1, p.2.0, e.left, p.2.1, p.2.2, p.2.3) (λ _. count_met c.args.tokens.now.left _ e.number)

pub returns-in_err-wires-clause-met : goal.returns-in_err-wires-clause-met
returns-in_err-wires-clause-met g c =
    let p = err_of c.from_residual-in_err-wires.result c.from_residual-in_err-wires.ensures.1 in
    let e = c.in_err-wires.ensures in
    rw (p.1, p.2.0, e.left, p.2.1, p.2.2, p.2.3)
    (λ _. wires_met c.args.tokens.now.left _ c.in_ok-count.ensures.number _ e.number)

pub returns-in_err-inputs-clause-met : goal.returns-in_err-inputs-clause-met
returns-in_err-inputs-clause-met g c =
    let p = err_of c.from_residual-in_err-inputs.result c.from_residual-in_err-inputs.ensures.1 in
    let e = c.in_err-inputs.ensures in
    rw (p.1, p.2.0, p.2.1, p.2.2, p.2.3) (λ other. rw (e.left other)
    (inputs_met c.args.tokens.now.left _ c.in_ok-count.ensures.number _
    c.in_ok-wires.ensures.number _ (e.read other)))

pub returns-in_err-outputs-clause-met : goal.returns-in_err-outputs-clause-met
returns-in_err-outputs-clause-met g c =
    let p = err_of c.from_residual-in_err-outputs.result c.from_residual-in_err-outputs.ensures.1 in
    let e = c.in_err-outputs.ensures in
    rw (p.1, p.2.0, p.2.1, p.2.2, p.2.3) (λ other. rw (e.left other)
    (outputs_due_met c.args.tokens.now.left _ c.in_ok-count.ensures.number _
    c.in_ok-wires.ensures.number _ c.in_ok-inputs.ensures.read _ (e.read other)))

pub returns-in_err-body-clause-met : goal.returns-in_err-body-clause-met
returns-in_err-body-clause-met g c =
    let p = err_of c.from_residual-in_err-body.result c.from_residual-in_err-body.ensures.1 in
    rw (p.1, p.2) (λ other. gates_met _ _ _ _ _ _ _ _ _ c.in_ok-count.ensures.number
    c.in_ok-wires.ensures.number c.in_ok-inputs.ensures.read c.in_ok-outputs.ensures.read
    _ _ _ _ _ _ c.in_ok-inputs.ensures.sums (c.in_err-body.ensures.stops other))

pub returns-in_err-check_outputs-clause-reading : goal.returns-in_err-check_outputs-clause-reading
returns-in_err-check_outputs-clause-reading g c =
    let shared = (goal.at.returns-in_err-check_outputs-clause-reading g c).After-deref in
    let p = err_of c.from_residual-in_err-check_outputs.result
    c.from_residual-in_err-check_outputs.ensures.1 in
    let e = c.in_err-check_outputs.ensures in
    rw (p.1, p.2, e.unset.fault) (λ _. rw (last_steps _ _ _ _ _ (steps g shared), e.read) refl)

pub returns-in_err-check_outputs-clause-met : goal.returns-in_err-check_outputs-clause-met
returns-in_err-check_outputs-clause-met g c =
    let shared = (goal.at.returns-in_err-check_outputs-clause-met g c).After-deref in
    let p = err_of c.from_residual-in_err-check_outputs.result
    c.from_residual-in_err-check_outputs.ensures.1 in
    rw (p.1, p.2) (λ _. unset_met_by _ _ _ _ _ (steps g shared) _ _ _ _
    c.in_err-check_outputs.ensures.unset)

pub returns-in_err-end-clause-reading : goal.returns-in_err-end-clause-reading
returns-in_err-end-clause-reading g c =
    let shared = (goal.at.returns-in_err-end-clause-reading g c).After-deref in
    let p = err_of c.from_residual-in_err-end.result c.from_residual-in_err-end.ensures.1 in
    let set = c.in_ok-check_outputs.ensures.read in
    rw (p.1, p.2.0)
    (λ _. rw (last_steps _ _ _ _ _ (steps g shared), set, ← c.in_err-end.ensures) refl)

pub returns-in_err-end-clause-met : goal.returns-in_err-end-clause-met
returns-in_err-end-clause-met g c =
    let shared = (goal.at.returns-in_err-end-clause-met g c).After-deref in
    let p = err_of c.from_residual-in_err-end.result c.from_residual-in_err-end.ensures.1 in
    rw (p.1, p.2.0, p.2.1, p.2.2, p.2.3) (λ _. end_met_by _ _ _ _ _ (steps g shared) _
    c.in_ok-check_outputs.ensures.read (sym c.in_err-end.ensures))

-- The whole circuit is read.
whole : (g : Over) (c : After-deref g) → list_all (λ b. b)
    (drop (length c.deref.result.now - c.in_ok-outputs.outputs.sum) c.deref.result.now) ≡ true →
    Ok tt ≡ check_end c.read_gates.new.tokens.left →
    circuit_of c.args.tokens.now.left ≡ Ok (read g c)
whole g c set end = rw (last_steps _ _ _ _ _ (steps g c), set, ← end) refl

pub new-requires : goal.new-requires
new-requires g c =
    let shared = (goal.at.new-requires g c).After-deref in
    record {
      lawful = circuit_of-lawful c.args.tokens.now.left (read g shared)
          (whole g shared c.in_ok-check_outputs.ensures.read c.in_ok-end.ensures);
      counts_inputs = c.in_ok-inputs.ensures.sums;
      counts_outputs = c.in_ok-outputs.ensures.sums;
      counts_ands = c.in_ok-body.ensures.marked.counted;
    }

pub returns-clause-reading : goal.returns-clause-reading
returns-clause-reading g c =
    let shared = (goal.at.returns-clause-reading g c).After-deref in
    whole g shared c.in_ok-check_outputs.ensures.read c.in_ok-end.ensures
    ∙ ap Ok (sym c.new.ensures)

pub returns-clause-spelled : goal.returns-clause-spelled
returns-clause-spelled g c =
    let shared = (goal.at.returns-clause-spelled g c).After-deref in
    circuit_of-spelled c.args.tokens.now.left _
    (whole g shared c.in_ok-check_outputs.ensures.read c.in_ok-end.ensures
    ∙ ap Ok (sym c.new.ensures))
