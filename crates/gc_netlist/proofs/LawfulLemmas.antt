-- A circuit whose gates and outputs pass their checks is lawful.
use Rattle.gc_netlist.proofs.CommonNames.{◌≡◌, ℕ, ◌+◌, ◌-◌, ◌<◌, ◌≤◌, ◌++◌, ◌==◌, inl, inr, List, [], ◌∷◌, length, take, slice_get, Some, Ok, Bool, true, false, nat_lt, ◌∙◌, arith, range_with_len, both_ways, or_cases, or_right, ltb-true, common_steps, nat_tests, gets, AllPass-from_list_all, length-range_with_len, get_or-range_with_len, MAX_GATES, MAX_WIRES, MAX_VALUES, Gate, Netlist, input_wires, output_wires, EachRead, IsSetBy, IsSetBefore, IsSet, IsLawful, is_set, check_read, check_set, check_reads, check_gate, check_outputs}
use Rattle.std.proofs.Math.Seq.{take-length}
use Rattle.std.proofs.lemmas.List.Folds.{Any-from_list_any}
use Rattle.std.proofs.lemmas.Map.Keys.{any_passes_from_place}
use Rattle.gc_netlist.proofs.SolutionLemmas.{EachRead-map}

-- The test for wires that are set says yes of such wires alone,
pub set_before : (c : Netlist) (n w : ℕ) → is_set (input_wires c) (take n c.gates) w ≡ true →
    IsSetBefore c n w
set_before c n w h = elim (or_cases (nat_lt w (input_wires c)) _ h) [
  | inl input ↦ inl (ltb-true w (input_wires c) input)
  | inr among ↦
      let (i, g, below, at, is) =
      Any-from_list_any (λ (g : Gate). g.set == w) (take n c.gates) among in
      let here : slice_get c.gates i ≡ Some g = grind (arith, common_steps, gets) in
      let same : g.set ≡ w = grind (arith, nat_tests) in
      inr (i, grind (arith, common_steps), record { gate = g; at = here; wire = same })
]

-- and of all of them.
pub before_set : (c : Netlist) (n w : ℕ) → IsSetBefore c n w →
    is_set (input_wires c) (take n c.gates) w ≡ true
before_set c n w (inl input) = grind (arith, nat_tests)
before_set c n w (inr (i, below, by)) = or_right (nat_lt w (input_wires c)) _
    (any_passes_from_place (λ (g : Gate). g.set == w) (take n c.gates) i by.gate
    (grind (arith, common_steps, gets)) (grind (arith, nat_tests)))

-- So does the test over all gates.
pub tested_set : (c : Netlist) (w : ℕ) → is_set (input_wires c) c.gates w ≡ true → IsSet c w
tested_set c w h = set_before c (length c.gates) w (rw (take-length c.gates) h)

pub set_tested : (c : Netlist) (w : ℕ) → IsSet c w → is_set (input_wires c) c.gates w ≡ true
set_tested c w set = rw (take-length c.gates) at (before_set c (length c.gates) w set)

-- What the check of a gate that passes says.
gate_passes : (wires : ℕ) (set : ℕ → Bool) (g : Gate) → check_gate wires set g ≡ Ok tt →
    EachRead (λ w. set w ≡ true) g.operation × (g.set < wires) × (set g.set ≡ false)
unfolding check_gate check_reads check_read check_set
gate_passes wires set g h = grind (arith, nat_tests)

-- Each gate passes the check against the gates before it.
abbrev pub AreChecked : ℕ → ℕ → List Gate → Type 0
AreChecked wires inputs gates = (i : ℕ) (g : Gate) → slice_get gates i ≡ Some g →
    check_gate wires (is_set inputs (take i gates)) g ≡ Ok tt

pub checked_push : (wires inputs : ℕ) (gates : List Gate) (g : Gate) (u : Unit {0}) →
    AreChecked wires inputs gates → check_gate wires (is_set inputs gates) g ≡ Ok u →
    AreChecked wires inputs (gates ++ g ∷ [])
checked_push wires inputs gates g u before here i h at =
    grind (arith, common_steps, gets, before i h)

pub outputs_are_set : (c : Netlist) (u : Unit {0}) → check_outputs c ≡ Ok u →
    output_wires c ≤ c.wires → (w : ℕ) → c.wires ≤ w + output_wires c → w < c.wires → IsSet c w
unfolding check_outputs
outputs_are_set c u h fits w last below =
    let first : ℕ = c.wires - output_wires c in
    let range : List ℕ = range_with_len first (output_wires c) in
    let inside : w - first < output_wires c = omega arith in
    let place : first + (w - first) ≡ w = omega arith in
    let all = AllPass-from_list_all (is_set (input_wires c) c.gates) range (grind arith) (w - first)
    0 (omega (arith, length-range_with_len first (output_wires c))) in
    tested_set c w (rw (get_or-range_with_len first (output_wires c) (w - first) 0 inside, place)
    at all)

-- A circuit of at most n gates that keeps the limits.
pub record IsSized (n : ℕ) (c : Netlist) : Type 0 where
  pub few_gates : n ≤ MAX_GATES
  pub so_far : length c.gates ≤ n
  pub few_wires : c.wires ≤ MAX_WIRES
  pub few_inputs : length c.input_widths ≤ MAX_VALUES
  pub inputs_fit : input_wires c ≤ c.wires
  pub few_outputs : length c.output_widths ≤ MAX_VALUES
  pub outputs_fit : output_wires c ≤ c.wires

-- It is lawful if its gates pass their checks and its outputs are set.
pub checked_lawful : (n : ℕ) (c : Netlist) → IsSized n c →
    AreChecked c.wires (input_wires c) c.gates →
    ((w : ℕ) → c.wires ≤ w + output_wires c → w < c.wires → IsSet c w) → IsLawful c
checked_lawful n c sized ok set =
    let passes = λ (i : ℕ) (g : Gate) (at : slice_get c.gates i ≡ Some g).
    gate_passes c.wires (is_set (input_wires c) (take i c.gates)) g (ok i g at) in
    record {
      few_gates = omega (arith, sized.few_gates, sized.so_far);
      few_wires = sized.few_wires;
      few_inputs = sized.few_inputs;
      few_outputs = sized.few_outputs;
      inputs_fit = sized.inputs_fit;
      outputs_fit = sized.outputs_fit;
      reads = λ i g at.
          EachRead-map _ (IsSetBefore c i) g.operation (set_before c i) (passes i g at).0;
      sets = λ i g at. (passes i g at).1;
      sets_once = λ i g at before. both_ways _ (passes i g at).2 (before_set c i g.set before);
      outputs_set = set;
    }
