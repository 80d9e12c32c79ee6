-- The gate that sets a wire, in a table.
use Rattle.gc_job.proofs.Names.{◌≡◌, ◌≢◌, refl, ℕ, ◌+◌, ◌<◌, ◌≤◌, inl, inr, List, set, length, length-set, get_or-set_same, get_or-set_other, slice_get, Some, sym, ◌∙◌, arith, slice_get_within, cases_eq, Netlist, IsSetBy, IsLawful, input_wires, AreSetters}
use Rattle.gc_netlist.specs.declared.gate.Gate.{Gate}

-- The gate that sets a wire is there.
pub set_within : (c : Netlist) (w g : ℕ) → IsSetBy c w g → g < length c.gates
set_within c w g set = slice_get_within c.gates g set.gate set.at

-- One gate more that doesn't set a wire.
pub not_set_below_more : (c : Netlist) (w i : ℕ) (g : Gate) → slice_get c.gates i ≡ Some g
    → g.set ≢ w → ((h : ℕ) → h < i → IsSetBy c w h → ⊥) → (h : ℕ) → h < i + 1 → IsSetBy c w h → ⊥
not_set_below_more c w i g at other none h below by = elim (cases_eq h i) [
  | inl same ↦ let is : g ≡ by.gate = cc in other (rw is by.wire)
  | inr apart ↦ none h (omega arith) by
]

set_once_before : (c : Netlist) (w g h : ℕ) → IsLawful c → IsSetBy c w g → IsSetBy c w h → g < h → ⊥
set_once_before c w g h lawful a b lt =
    lawful.sets_once h b.gate b.at (rw b.wire (inr (g, lt, a)))

-- One gate sets a wire.
pub set_once : (c : Netlist) (w g h : ℕ) → IsLawful c → IsSetBy c w g → IsSetBy c w h → g ≡ h
set_once c w g h lawful a b =
    omega (arith, set_once_before c w g h lawful a b, set_once_before c w h g lawful b a)

-- No gate sets an input wire.
pub input_not_set : (c : Netlist) (w g : ℕ) → IsLawful c → w < input_wires c → IsSetBy c w g → ⊥
input_not_set c w g lawful input set =
    lawful.sets_once g set.gate set.at (rw set.wire (inl input))

-- A gate sets a wire after the input wires.
pub past_inputs : (c : Netlist) (i : ℕ) (g : Gate) → IsLawful c → slice_get c.gates i ≡ Some g
    → input_wires c ≤ g.set
past_inputs c i g lawful at =
    let none = λ (input : g.set < input_wires c). lawful.sets_once i g at (inl input) in omega arith

-- one gate more
pub more_setters : (c : Netlist) (n i : ℕ) (g : Gate) (setters : List ℕ) → IsLawful c
    → slice_get c.gates n ≡ Some g → input_wires c + i ≡ g.set
    → AreSetters c n setters → AreSetters c (n + 1) (set setters i (n + 1))
more_setters c n i g setters lawful at wire are =
    let room : i < length setters = omega (arith, lawful.sets n g at, are.count, wire) in
    let here = get_or-set_same setters i (n + 1) 0 room in
    let mine : IsSetBy c (input_wires c + i) n = record { gate = g; at = at; wire = sym wire } in
    record {
      count = rw (length-set setters i (n + 1)) are.count;
      set = λ j h below by. elim (cases_eq j i) [
        | inl same ↦
            rw (same, here, set_once c (input_wires c + i) n h lawful mine (rw same at by)) refl
        | inr other ↦
            let apart : h ≢ n = λ e. other (
            let same : input_wires c + j ≡ input_wires c + i = cc (mine.wire) in omega arith) in
            get_or-set_other setters i j (n + 1) 0 other ∙ are.set j h (omega arith) by
      ];
      setter = λ j h is. elim (cases_eq j i) [
        | inl same ↦
            let both : n + 1 ≡ h + 1 = sym here ∙ rw same at is in
            let e : n ≡ h = omega arith in
            rw (same, ← e) mine
        | inr other ↦ are.setter j h (sym (get_or-set_other setters i j (n + 1) 0 other) ∙ is)
      ];
    }
