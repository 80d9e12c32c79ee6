-- Where a reader is at the first fault.
use Rattle.gc_circuit.proofs.Names.{◌≡◌, ◌-◌, ℕ, List, length, drop, sum, Bool, true, Option, None, Ok, Err, inl, inr, refl, sym, ◌∙◌, arith, list_all, MAX_GATES, MAX_WIRES, ReadFault, Netlist, limited_at, widths_at, check_end, IsMet, gate_met, wire_met, unset_met, end_met, GatesStop, IsUnset}
use Rattle.gc_netlist.proofs.FaultLemmas.{Met}
use Rattle.gc_circuit.proofs.CheckLemmas.{marks_len, marked}
use Rattle.gc_circuit.proofs.ReadLemmas.{ReadSteps, outputs_found}

-- The fault of a gate that is read after a header.
module _ (ts t1 t2 t3 t4 : List (List ℕ)) (n wires : ℕ) (ins outs : List ℕ)
    (h1 : limited_at MAX_GATES ts ≡ Ok (n, t1)) (h2 : limited_at MAX_WIRES t1 ≡ Ok (wires, t2))
    (h3 : widths_at wires t2 ≡ Ok (ins, t3)) (h4 : widths_at wires t3 ≡ Ok (outs, t4)) where
  pub gates_met : (inputs : ℕ) (new : List (List ℕ)) (e : ReadFault) (back : ℕ)
      (gate wire : Option ℕ) → inputs ≡ sum ins → GatesStop wires inputs n t4 new e back gate wire →
      IsMet ts e new back gate wire
  gates_met inputs new e back gate wire is stop =
      let s = rw is at stop in
      elim s.stops [
        | inl h ↦ rw (h.1, h.2, h.3, s.in_gate)
            (gate_met ts (n, t1) h1 (wires, t2) h2 (ins, t3) h3 (outs, t4) h4 (s.gates, s.at) e
            s.so_far s.more h.0)
        | inr h ↦ rw (h.3.0, h.3.1, s.in_gate)
            (wire_met ts (n, t1) h1 (wires, t2) h2 (ins, t3) h3 (outs, t4) h4 (s.gates, s.at)
            (h.0, new) e s.so_far s.more h.1 h.2)
      ]

-- The fault of what comes after the gates.
module _ (ts : List (List ℕ)) (c : Netlist) (rest : List (List ℕ)) (outputs : ℕ)
    (table : List Bool) (steps : ReadSteps ts c rest outputs table) (e : ReadFault) where
  pub unset_met_by : (back : ℕ) (gate wire : Option ℕ) → IsUnset table outputs e back gate wire →
      IsMet ts e rest back gate wire
  unset_met_by back gate wire u =
      let len = marks_len (sum c.input_widths) c.wires c.gates table steps.marks in
      let mark = marked (sum c.input_widths) c.wires c.gates table steps.marks in
      rw (u.fault, u.at_cursor, u.in_gate, u.at_wire)
      (unset_met ts (steps.count, steps.after_count) steps.count_read (c.wires, steps.after_wires)
      steps.wires_read (c.input_widths, steps.after_inputs) steps.inputs_read
      (c.output_widths, steps.after_outputs) steps.outputs_read (c.gates, rest) steps.gates_read
      u.first (omega (arith, steps.sums)) (omega arith) (sym (mark u.first (omega arith)) ∙ u.free)
      (λ v high low. sym (mark v (omega arith)) ∙ u.lower v (omega (arith, steps.sums)) low))

  pub end_met_by : list_all (λ b. b) (drop (length table - outputs) table) ≡ true →
      check_end rest ≡ Err e → Met ts rest None e
  end_met_by set bad =
      end_met ts (steps.count, steps.after_count) steps.count_read (c.wires, steps.after_wires)
      steps.wires_read (c.input_widths, steps.after_inputs) steps.inputs_read
      (c.output_widths, steps.after_outputs) steps.outputs_read (c.gates, rest) steps.gates_read
      tt e (rw (outputs_found ts c rest outputs table steps, set) refl) bad
