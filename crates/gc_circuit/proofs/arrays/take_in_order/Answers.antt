use Rattle.gc_circuit.proofs.Names.{◌≡◌, ◌-◌, ℕ, Option, inl, inr, true, drop, length, List, [], Ok, refl, ap, ◌∙◌, arith, list_all, err_of, ReadFault, Netlist, netlist_of, IsMet, circuit_of, count_met, wires_met, inputs_met, outputs_due_met, circuit_of-lawful, text_of, tokens_of, IsFound}
use Rattle.gc_netlist.specs.Text.{tokens}
use Rattle.gc_circuit.proofs.ArrayLemmas.{after_count, after_wires, after_inputs, count_is, arrays_canonical}
use Rattle.gc_circuit.proofs.CheckLemmas.{marks_len}
use Rattle.gc_circuit.proofs.MetLemmas.{gates_met, unset_met_by}
use Rattle.gc_circuit.proofs.ReadLemmas.{ReadSteps, last_steps}
use Rattle.gc_circuit.proofs.arrays.take_in_order.Given.{Over}
use Rattle.gc_circuit.proofs.arrays.take_in_order.Goals.{After-deref}
use Rattle.gc_circuit.proofs.arrays.take_in_order.Goals as goal

-- The fault that is met is found.
found : {text : List ℕ} {e : ReadFault} {left : List (List ℕ)} {back : ℕ} {gate wire : Option ℕ} →
    IsMet (tokens text) e left back gate wire → IsFound text e gate wire
found m = record { first = m.first; lowest = m.lowest; in_gate = m.in_gate; at_wire = m.at_wire }

-- The circuit that is read, and the steps of reading it
abbrev read : (g : Over) → After-deref g → Netlist
read g c = netlist_of c.args.arrays.wires c.args.arrays.input_widths.now
    c.args.arrays.output_widths.now c.in_ok-body.body.gates.items

steps : (g : Over) (c : After-deref g) → ReadSteps (tokens (text_of c.args.arrays)) (read g c) []
    c.in_ok-outputs.outputs.sum c.deref.result.now
steps g c =
    let a = c.args.arrays in
    record {
      after_count = after_count a;
      after_wires = after_wires a;
      after_inputs = after_inputs a;
      after_outputs = tokens_of a.gates.now;
      count = length a.gates.now;
      count_read = count_is a ∙ c.in_ok-check_limit.ensures.read (after_count a);
      wires_read = c.in_ok-check_limit-2.ensures.read (after_wires a);
      inputs_read = c.in_ok-inputs.ensures.read (after_inputs a);
      outputs_read = c.in_ok-outputs.ensures.read (tokens_of a.gates.now);
      gates_read = rw (← c.in_ok-inputs.ensures.sums) c.in_ok-body.ensures.read;
      sums = c.in_ok-outputs.ensures.sums;
      fits = c.in_ok-outputs.ensures.fits;
      marks = rw (c.deref.ensures.value, ← c.in_ok-inputs.ensures.sums)
          c.in_ok-body.ensures.marked.table;
    }

pub returns-in_err-check_limit-clause-stops : goal.returns-in_err-check_limit-clause-stops
returns-in_err-check_limit-clause-stops g c =
    let p = err_of c.from_residual.result c.from_residual.ensures.1 in
    let a = c.args.arrays in
    rw (p.1, p.2.0, p.2.2, p.2.3) (inr (found (count_met (tokens (text_of a)) _
    (count_is a ∙ c.in_err-check_limit.ensures.read (after_count a)))))

pub returns-in_err-check_limit-2-clause-stops : goal.returns-in_err-check_limit-2-clause-stops
returns-in_err-check_limit-2-clause-stops g c =
    let p = err_of c.from_residual-in_err-check_limit-2.result
    c.from_residual-in_err-check_limit-2.ensures.1 in
    let a = c.args.arrays in
    let count = count_is a ∙ c.in_ok-check_limit.ensures.read (after_count a) in
    rw (p.1, p.2.0, p.2.2, p.2.3) (inr (found (wires_met (tokens (text_of a)) _ count _
    (c.in_err-check_limit-2.ensures.read (after_wires a)))))

pub returns-in_err-inputs-clause-stops : goal.returns-in_err-inputs-clause-stops
returns-in_err-inputs-clause-stops g c =
    let p = err_of c.from_residual-in_err-inputs.result c.from_residual-in_err-inputs.ensures.1 in
    let a = c.args.arrays in
    let count = count_is a ∙ c.in_ok-check_limit.ensures.read (after_count a) in
    rw (p.1, p.2.0, p.2.2, p.2.3) (elim c.in_err-inputs.ensures.fault [
      | inl refused ↦ inl (refused, refl, refl)
      | inr read ↦ inr (found (inputs_met (tokens (text_of a)) _ count _
          (c.in_ok-check_limit-2.ensures.read (after_wires a)) _ (read (after_inputs a))))
    ])

pub returns-in_err-outputs-clause-stops : goal.returns-in_err-outputs-clause-stops
returns-in_err-outputs-clause-stops g c =
    let p = err_of c.from_residual-in_err-outputs.result c.from_residual-in_err-outputs.ensures.1 in
    let a = c.args.arrays in
    let count = count_is a ∙ c.in_ok-check_limit.ensures.read (after_count a) in
    rw (p.1, p.2.0, p.2.2, p.2.3) (elim c.in_err-outputs.ensures.fault [
      | inl refused ↦ inl (refused, refl, refl)
      | inr read ↦ inr (found (outputs_due_met (tokens (text_of a)) _ count _
          (c.in_ok-check_limit-2.ensures.read (after_wires a)) _
          (c.in_ok-inputs.ensures.read (after_inputs a)) _ (read (tokens_of a.gates.now))))
    ])

pub returns-in_err-body-clause-stops : goal.returns-in_err-body-clause-stops
returns-in_err-body-clause-stops g c =
    let p = err_of c.from_residual-in_err-body.result c.from_residual-in_err-body.ensures.1 in
    let a = c.args.arrays in
    let count = count_is a ∙ c.in_ok-check_limit.ensures.read (after_count a) in
    rw (p.1, p.2) (elim c.in_err-body.ensures.stops [
      | inl refused ↦ inl refused
      | inr (left, stop) ↦ inr (found (gates_met (tokens (text_of a)) _ _ _ _ _ _ _ _
          count (c.in_ok-check_limit-2.ensures.read (after_wires a))
          (c.in_ok-inputs.ensures.read (after_inputs a))
          (c.in_ok-outputs.ensures.read (tokens_of a.gates.now)) _ left _ _ _ _
          c.in_ok-inputs.ensures.sums stop))
    ])

pub check_outputs-requires : goal.check_outputs-requires
check_outputs-requires g c =
    let len = marks_len _ _ _ _ c.in_ok-body.ensures.marked.table in
    let same = ap length c.deref.ensures.value in
    record {
      fits = omega (arith, c.in_ok-outputs.ensures.fits);
      small = omega (arith, c.in_ok-check_limit-2.ensures.within);
    }

pub returns-in_err-check_outputs-clause-stops : goal.returns-in_err-check_outputs-clause-stops
returns-in_err-check_outputs-clause-stops g c =
    let shared = (goal.at.returns-in_err-check_outputs-clause-stops g c).After-deref in
    let p = err_of c.from_residual-in_err-check_outputs.result
    c.from_residual-in_err-check_outputs.ensures.1 in
    rw (p.1, p.2) (inr (found (unset_met_by _ _ _ _ _ (steps g shared) _ _ _ _
    c.in_err-check_outputs.ensures.unset)))

-- The text is read as the circuit.
whole : (g : Over) (c : After-deref g) → list_all (λ b. b)
    (drop (length c.deref.result.now - c.in_ok-outputs.outputs.sum) c.deref.result.now) ≡ true →
    circuit_of (tokens (text_of c.args.arrays)) ≡ Ok (read g c)
whole g c set = rw (last_steps _ _ _ _ _ (steps g c), set) refl

pub new-requires : goal.new-requires
new-requires g c =
    let shared = (goal.at.new-requires g c).After-deref in
    rw (c.in_ok-inputs.ensures.same, c.in_ok-outputs.ensures.same) (record {
      lawful = circuit_of-lawful _ _ (whole g shared c.in_ok-check_outputs.ensures.read);
      counts_inputs = c.in_ok-inputs.ensures.sums;
      counts_outputs = c.in_ok-outputs.ensures.sums;
      counts_ands = c.in_ok-body.ensures.marked.counted;
    })

pub returns-clause-canonical : goal.returns-clause-canonical
returns-clause-canonical g c =
    rw (c.new.ensures, c.in_ok-inputs.ensures.same, c.in_ok-outputs.ensures.same)
    (arrays_canonical c.args.arrays _ c.in_ok-body.ensures.words)
