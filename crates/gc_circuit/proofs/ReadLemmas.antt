-- Reading a whole circuit, in its steps.
use Rattle.gc_circuit.proofs.Names.{◌≡◌, ℕ, ◌≤◌, ◌-◌, Bool, cond, List, [], length, map, drop, sum, Result, Ok, Err, refl, arith, list_all, range_with_len, list_all-map, MAX_GATES, MAX_WIRES, ReadFault, OutputUnset, Netlist, ◌>>=◌, limited_at, widths_at, gates_at, is_set, check_outputs, check_end, circuit_of, table_end}
use Rattle.gc_circuit.proofs.CheckLemmas.{marks_len}

-- What is read before the outputs are checked, the tokens that are left then, and the table of the wires that are set.
pub record ReadSteps (ts : List (List ℕ)) (c : Netlist) (rest : List (List ℕ)) (outputs : ℕ)
    (table : List Bool) : Type 0 where
  pub after_count : List (List ℕ)
  pub after_wires : List (List ℕ)
  pub after_inputs : List (List ℕ)
  pub after_outputs : List (List ℕ)
  pub count : ℕ
  pub count_read : limited_at MAX_GATES ts ≡ Ok (count, after_count)
  pub wires_read : limited_at MAX_WIRES after_count ≡ Ok (c.wires, after_wires)
  pub inputs_read : widths_at c.wires after_wires ≡ Ok (c.input_widths, after_inputs)
  pub outputs_read : widths_at c.wires after_inputs ≡ Ok (c.output_widths, after_outputs)
  pub gates_read : gates_at c.wires (sum c.input_widths) count [] after_outputs ≡ Ok (c.gates, rest)
  pub sums : outputs ≡ sum c.output_widths
  pub fits : outputs ≤ c.wires
  pub marks : table ≡ map (is_set (sum c.input_widths) c.gates) (range_with_len 0 c.wires)

-- The check of the outputs by that table
abbrev pub outputs_by : (table : List Bool) (outputs : ℕ) → Result (Unit {0}) ReadFault
outputs_by table outputs =
    cond (list_all (λ b. b) (drop (length table - outputs) table)) (Ok tt) (Err OutputUnset)

module _ (ts : List (List ℕ)) (c : Netlist) (rest : List (List ℕ)) (outputs : ℕ)
    (table : List Bool) (steps : ReadSteps ts c rest outputs table) where
  -- is the check of the outputs.
  pub outputs_found : check_outputs c ≡ outputs_by table outputs
  unfolding check_outputs
  outputs_found =
      let set_now : ℕ → Bool = is_set (sum c.input_widths) c.gates in
      let last = table_end set_now c.wires (sum c.output_widths)
      (omega (arith, steps.sums, steps.fits)) in
      let all = list_all-map (λ b. b) set_now
      (range_with_len (c.wires - sum c.output_widths) (sum c.output_widths)) in
      rw (marks_len _ c.wires c.gates table steps.marks, steps.marks, steps.sums, last, all) refl

  -- Then the end is checked.
  pub last_steps :
      circuit_of ts ≡ (outputs_by table outputs >>= (λ u. check_end rest >>= (λ v. Ok c)))
  unfolding circuit_of
  last_steps = rw (
    steps.count_read,
    steps.wires_read,
    steps.inputs_read,
    steps.outputs_read,
    steps.gates_read,
    outputs_found,
  ) refl
