-- Checking gates against a table of marks.
use Rattle.gc_circuit.proofs.Names.{inl, inr, ◌≡◌, ℕ, zero, suc, ◌+◌, ◌-◌, ◌<◌, ◌≤◌, ◌==◌, ◌++◌, List, [], ◌∷◌, Bool, true, false, cond, length, map, set, take, get_or, slice_set, slice_index_or, replicate, Option, Some, None, rules, Result, Ok, Err, refl, sym, ap, ◌∙◌, arith, range_with_len, nat_tests, length-set, get_or-set_same, get_or-set_other, common_steps, list_any-append, ReadFault, Gate, Operation, is_and, first_wire, second_wire, wire_of_one, wire_at_fault, AreMarked, GateStops, GatesStop, read-table, length-table, ◌>>=◌, gate_at, is_set, check_read, check_set, check_reads, check_gate, gates_at}
use Rattle.std.specs.Int.{from_bool}
use Rattle.std.proofs.lemmas.List.Sums.{sum_by-append}
use Rattle.std.proofs.lemmas.List.FromFn.{fill_by_all}

module _ (n : ℕ) (s t : ℕ → Bool) (same : (w : ℕ) → w < n → s w ≡ t w) where
  read_same : (w : ℕ) → check_read n s w ≡ check_read n t w
  unfolding check_read
  read_same w = grind (arith, nat_tests, same)

  set_same : (w : ℕ) → check_set n s w ≡ check_set n t w
  unfolding check_set
  set_same w = grind (arith, nat_tests, same)

  reads_same : (op : Operation) → check_reads n s op ≡ check_reads n t op
  unfolding check_reads
  reads_same op = grind (arith, read_same)

  check_same : (g : Gate) → check_gate n s g ≡ check_gate n t g
  unfolding check_gate
  check_same g = rw (reads_same g.operation, set_same g.set) refl

  wire_same : (c : ℕ) (op : Operation) → wire_at_fault n s c op ≡ wire_at_fault n t c op
  wire_same c op = grind (arith, read_same)

-- The wire at fault of a gate that reads one wire
pub reads_one : (n : ℕ) (is_set : ℕ → Bool) (set a : ℕ) (op : Operation) → first_wire op ≡ Some a
    → second_wire op ≡ None → wire_of_one n is_set a set ≡ wire_at_fault n is_set set op
reads_one n is_set set a op first second = search rules

-- What a table of marks says of the wires, the gates before say.
module _ (inputs n : ℕ) (before : List Gate) (marks : List Bool)
    (is : marks ≡ map (is_set inputs before) (range_with_len 0 n)) where
  pub marks_len : length marks ≡ n
  marks_len = length-table (is_set inputs before) n marks is

  pub marked : (w : ℕ) → w < n → slice_index_or marks w false ≡ is_set inputs before w
  marked w below = rw is (read-table (is_set inputs before) n w false below)

  pub marks_read : (g : Gate) → check_gate (length marks) (λ w. slice_index_or marks w false) g
      ≡ check_gate n (is_set inputs before) g
  marks_read g = rw marks_len (check_same n (λ w. slice_index_or marks w false) _ marked g)

  -- the wire at fault
  pub wire_read : (c : ℕ) (op : Operation) →
      wire_at_fault (length marks) (λ w. slice_index_or marks w false) c op
      ≡ wire_at_fault n (is_set inputs before) c op
  wire_read c op = rw marks_len (wire_same n (λ w. slice_index_or marks w false) _ marked c op)

  -- the gate at which reading stops
  pub stops_found : (old new : List (List ℕ)) (e : ReadFault) (back : ℕ) (wire : Option ℕ) →
      GateStops (length marks) (λ w. slice_index_or marks w false) old new e back wire →
      GateStops n (is_set inputs before) old new e back wire
  stops_found old new e back wire (inl h) = inl h
  stops_found old new e back wire (inr (g, read, bad, at)) =
      inr (g, read, rw (← marks_read g) bad, rw (← wire_read g.set g.operation) at)

-- a gate more
marks_more : (inputs n : ℕ) (before : List Gate) (g : Gate) (marks : List Bool) →
    marks ≡ map (is_set inputs before) (range_with_len 0 n) → g.set < n →
    set marks g.set true ≡ map (is_set inputs (before ++ g ∷ [])) (range_with_len 0 n)
marks_more inputs n before g marks is within =
    fill_by_all (is_set inputs (before ++ g ∷ [])) (set marks g.set true) n false
    (length-set marks g.set true ∙ marks_len inputs n before marks is) at_each
  where
    at_each : (k : ℕ) → k < n →
        get_or (set marks g.set true) k false ≡ is_set inputs (before ++ g ∷ []) k
    at_each k below =
        let len = marks_len inputs n before marks is in
        let old = marked inputs n before marks is k below in
        let all = list_any-append (λ (x : Gate). x.set == k) before (g ∷ []) in
        grind (arith, nat_tests, get_or-set_same, get_or-set_other)

-- a gate that is accepted sets a wire
pub check_in_range : (n : ℕ) (s : ℕ → Bool) (g : Gate) → check_gate n s g ≡ Ok tt → g.set < n
unfolding check_gate check_set
check_in_range n s g h = grind (arith, nat_tests)

-- the table before any gate, as two fillings of an empty list
pub start_table : (inputs wires none first_len : ℕ) (empty first second : List Bool) →
    inputs ≤ wires → empty ≡ [] → none ≡ 0 →
    first ≡ take inputs empty ++ replicate (inputs - none) true → first_len ≡ inputs →
    second ≡ take wires first ++ replicate (wires - first_len) false →
    second ≡ map (is_set inputs []) (range_with_len 0 wires)
start_table inputs wires none first_len empty first second fits e n is_first len is_second =
    let first_is : first ≡ replicate inputs true = grind (arith, common_steps) in
    let second_is : second ≡ replicate inputs true ++ replicate (wires - inputs) false =
    grind (arith, common_steps) in
    rw second_is (fill_by_all (is_set inputs []) _ wires false (grind (arith, common_steps))
    (λ k below. grind (arith, nat_tests, common_steps)))

-- The table and the number of AND gates, with one gate more
pub marked_more : (wires inputs : ℕ) (before after : List Gate) (set : List Bool) (ands k : ℕ)
    (t : Bool) (g : Gate) → g.set < length set → after ≡ before ++ g ∷ [] →
    t ≡ is_and g.operation → k ≡ from_bool t → AreMarked wires inputs before set ands →
    AreMarked wires inputs after (slice_set set g.set true) (ands + k)
marked_more wires inputs before after set ands k t g within more is one are =
    let len = marks_len inputs wires before set are.table in
    let last = sum_by-append (λ (x : Gate). cond (is_and x.operation) 1 0) before (g ∷ []) in
    let counted = are.counted in
    rw more (record {
      table = marks_more inputs wires before g set are.table (omega arith);
      counted = grind (arith, last);
    })

-- A gate that passes the check by the table passes it by the gates before.
pub marked_passes : {wires inputs : ℕ} {before : List Gate} {set : List Bool} {ands : ℕ}
    (marks : List Bool) (g : Gate) → AreMarked wires inputs before set ands → marks ≡ set →
    check_gate (length marks) (λ w. slice_index_or marks w false) g ≡ Ok tt →
    check_gate wires (is_set inputs before) g ≡ Ok tt
marked_passes {wires = wires} {inputs = inputs} {before = before} marks g are is passes =
    sym (marks_read inputs wires before marks (is ∙ are.table) g) ∙ passes

bind_assoc : {A B C : Type 0} (r : Result A ReadFault) (f : A → Result B ReadFault)
    (k : B → Result C ReadFault) → ((r >>= f) >>= k) ≡ (r >>= (λ x. f x >>= k))
bind_assoc (Ok x) f k = refl
bind_assoc (Err e) f k = refl

-- Gates are read in two parts.
gates_add : (wires inputs n m : ℕ) (before : List Gate) (ts : List (List ℕ)) →
    gates_at wires inputs (n + m) before ts
    ≡ (gates_at wires inputs n before ts >>= (λ p. gates_at wires inputs m p.0 p.1))
unfolding gates_at
gates_add wires inputs zero m before ts = grind arith
gates_add wires inputs (suc n) m before ts =
    let more : suc n + m ≡ suc (n + m) = omega arith in
    let later = λ (g : Gate × List (List ℕ)). gates_add wires inputs n m (before ++ g.0 ∷ []) g.1 in
    rw more (simp (bind_assoc, later))

-- One gate more is read.
pub gates_push : (wires inputs n : ℕ) (gs : List Gate) (g : Gate) (ts at rest : List (List ℕ)) →
    gates_at wires inputs n [] ts ≡ Ok (gs, at) → gate_at at ≡ Ok (g, rest) →
    check_gate wires (is_set inputs gs) g ≡ Ok tt →
    gates_at wires inputs (n + 1) [] ts ≡ Ok (gs ++ g ∷ [], rest)
unfolding gates_at
gates_push wires inputs n gs g ts at rest so_far read good =
    rw (gates_add wires inputs n 1 [] ts, so_far, read, good) refl

-- Reading stops after i of count gates.
module _ (wires inputs count i : ℕ) (before : List Gate) (old ts new : List (List ℕ))
    (e : ReadFault) (back : ℕ) (wire : Option ℕ) (below : i < count)
    (so_far : gates_at wires inputs i [] old ≡ Ok (before, ts))
    (stops : GateStops wires (is_set inputs before) ts new e back wire) where
  pub turn_stops : gates_at wires inputs count [] old ≡ Err e
  unfolding gates_at
  turn_stops =
      let rest : ℕ = count - (i + 1) in
      let all : count ≡ i + suc rest = omega arith in
      elim stops [
        | inl h ↦ rw (all, gates_add wires inputs i (suc rest) [] old, so_far, h.0) refl
        | inr h ↦ rw (all, gates_add wires inputs i (suc rest) [] old, so_far, h.1, h.2) refl
      ]

  pub gates_stop : (gate : Option ℕ) → length before ≡ i → gate ≡ Some i →
      GatesStop wires inputs count old new e back gate wire
  gates_stop gate len is = record {
    gates = before;
    at = ts;
    so_far = rw len so_far;
    more = omega arith;
    in_gate = is ∙ ap Some (sym len);
    stops = stops;
  }
