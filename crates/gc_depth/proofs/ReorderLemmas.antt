-- A circuit with its gates in another order.
use Rattle.gc_depth.proofs.Names.{◌≡◌, ◌≢◌, ℕ, suc, ◌<◌, ◌≤◌, ◌==◌, inl, inr, List, ◌∷◌, length, map, sum, drop, get_or, slice_get, Some, Bool, true, false, refl, sym, ap, ◌∙◌, arith, filter, Contains, IsDistinct, IsPermutation, nat_tests, slice_get_within, slice_get_read, slice_get-get_or, get_or_from_slice_get, drop-cons, length-map, get_or-map, take-append-drop, Contains-append_right, filter-append, Contains-permutation, IsPermutation-sym, IsPermutation-map, length_permutation, Gate, Netlist, EachRead, IsSetBefore, IsSet, IsLawful, Solves, with_gates, IsReordering}
use Rattle.std.proofs.lemmas.Map.Keys.{IsDistinct-from_apart, IsDistinct-IsPermutation, apart_from_distinct}
use Rattle.gc_netlist.specs.declared.gate.Operation.TheVariants.{Eq}

-- An item at a place is one that the list contains.
pub contains_at : {X : Type 0} (xs : List X) (i : ℕ) (x : X) → slice_get xs i ≡ Some x → Contains xs x
contains_at xs i x at = (i, slice_get_within xs i x at, get_or_from_slice_get xs i x x at)

pub at_contains : {X : Type 0} (xs : List X) (x : X) → Contains xs x → (i : ℕ) × (slice_get xs i ≡ Some x)
at_contains xs x (i, within, is) = (i, slice_get_read xs (length xs) i x refl within (sym is))

-- An item at a place is at some place where the items are in another order.
moved : {X : Type 0} (xs ys : List X) → IsPermutation xs ys → (i : ℕ) (x : X) →
    slice_get xs i ≡ Some x → (j : ℕ) × (slice_get ys j ≡ Some x)
moved xs ys same i x at =
    at_contains ys x (Contains-permutation xs ys x same (contains_at xs i x at))

pub contains_filter : {X : Type 0} (p : X → Bool) (xs : List X) (x : X) → p x ≡ true →
    Contains xs x → Contains (filter p xs) x
contains_filter p xs x passes (k, within, is) =
    let cut = rw is at (drop-cons xs k x within) in
    rw (← take-append-drop k xs, cut, filter-append, passes)
    (Contains-append_right _ (x ∷ filter p (drop (suc k) xs)) x (0, omega arith, refl))

abbrev pub set_by : Gate → ℕ
set_by g = g.set

-- some gate
pub none : Gate
none = record { operation = Eq false; set = 0 }

-- what the gate at a place sets
sets_at : (gates : List Gate) (i : ℕ) (g : Gate) (d : ℕ) → slice_get gates i ≡ Some g →
    get_or (map set_by gates) i d ≡ g.set
sets_at gates i g d at = get_or-map set_by gates i g d (slice_get_within gates i g at)
    ∙ ap set_by (get_or_from_slice_get gates i g g at)

module _ (c : Netlist) (lawful : IsLawful c) where
  -- no two gates set one wire
  distinct : IsDistinct (λ (a b : ℕ). a == b) (map set_by c.gates)
  distinct = IsDistinct-from_apart (λ (a b : ℕ). a == b) (map set_by c.gates) (λ i j d below within.
      let long = length-map c.gates set_by in
      let g = get_or c.gates i none in
      let h = get_or c.gates j none in
      let at_i = slice_get-get_or c.gates i none (omega (arith, long, within, below)) in
      let at_j = slice_get-get_or c.gates j none (omega (arith, long, within)) in
      let apart : g.set ≢ h.set = λ same. lawful.sets_once j h at_j
      (inr (i, below, record { gate = g; at = at_i; wire = same })) in
      rw (sets_at c.gates i g d at_i, sets_at c.gates j h d at_j) (grind (arith, nat_tests)))

  module _ (gates : List Gate) (permuted : IsPermutation c.gates gates) where
    back : IsPermutation gates c.gates
    back = IsPermutation-sym c.gates gates permuted

    distinct_too : IsDistinct (λ (a b : ℕ). a == b) (map set_by gates)
    distinct_too = IsDistinct-IsPermutation (λ (a b : ℕ). a == b) (λ a b. grind (arith, nat_tests))
        (map set_by c.gates) (map set_by gates) (IsPermutation-map set_by c.gates gates permuted) distinct

    -- No gate sets an input wire, or a wire that a gate before it sets.
    once : (i : ℕ) (g : Gate) → slice_get gates i ≡ Some g →
        IsSetBefore (with_gates c gates) i g.set → ⊥
    once i g at (inl input) =
        let (j, at_j) = moved gates c.gates back i g at in lawful.sets_once j g at_j (inl input)
    once i g at (inr (k, below, by)) =
        let within = slice_get_within gates i g at in
        let apart = rw (sets_at gates k by.gate 0 by.at, sets_at gates i g 0 at) at
        (apart_from_distinct (λ (a b : ℕ). a == b) (map set_by gates) k i 0 distinct_too below
        (omega (arith, length-map gates set_by, within))) in
        grind (arith, nat_tests, by.wire)

    -- A wire that a gate sets is set.
    set_too : (w : ℕ) → IsSet c w → IsSet (with_gates c gates) w
    set_too w (inl input) = inl input
    set_too w (inr (i, below, by)) =
        let (j, at) = moved c.gates gates permuted i by.gate by.at in
        let within = slice_get_within gates j by.gate at in
        inr (j, within, record { gate = by.gate; at = at; wire = by.wire })

    -- If each gate reads only wires that are set before it, the circuit is lawful.
    pub reordered_lawful : ((i : ℕ) (g : Gate) → slice_get gates i ≡ Some g →
        EachRead (IsSetBefore (with_gates c gates) i) g.operation) → IsLawful (with_gates c gates)
    reordered_lawful reads = record {
      few_gates = omega (arith, length_permutation c.gates gates permuted, lawful.few_gates);
      few_wires = lawful.few_wires;
      few_inputs = lawful.few_inputs;
      few_outputs = lawful.few_outputs;
      inputs_fit = lawful.inputs_fit;
      outputs_fit = lawful.outputs_fit;
      reads = reads;
      sets = λ i g at. let (j, at_j) = moved gates c.gates back i g at in lawful.sets j g at_j;
      sets_once = once;
      outputs_set = λ w last below. set_too w (lawful.outputs_set w last below);
    }

pub reordering_back : (c d : Netlist) → IsReordering c d → IsReordering d c
reordering_back c d h = record {
  wires = sym h.wires;
  input_widths = sym h.input_widths;
  output_widths = sym h.output_widths;
  gates = IsPermutation-sym c.gates d.gates h.gates;
}

-- Values that solve a rule which knows no place solve it wherever the gates are.
pub solves_too : {A : Type 0} (rule : (ℕ → A) → ℕ → Gate → A) →
    ((v : ℕ → A) (i j : ℕ) (g : Gate) → rule v i g ≡ rule v j g) → (c d : Netlist) →
    IsReordering c d → (given values : ℕ → A) → Solves rule c given values →
    Solves rule d given values
solves_too rule placeless c d same given values s = record {
  inputs = λ w h. s.inputs w (omega (arith, h, ap sum same.input_widths));
  gates = λ i g at.
      let (j, at_j) =
      moved d.gates c.gates (IsPermutation-sym c.gates d.gates same.gates) i g at in
      s.gates j g at_j ∙ placeless values j i g;
}
