-- A first fault is the fault that reading meets.
use Rattle.gc_netlist.proofs.CommonNames.{◌≡◌, ◌⊎◌, ℕ, suc, ◌+◌, ◌-◌, ◌≤◌, ◌++◌, List, [], ◌∷◌, length, map, sum, nat_le, Bool, false, Result, Err, refl, arith, ◌≢◌, inl, inr, list_all, range_with_len, nat_tests, cases_Bool, false_from_ne_true, ReadFault, Truncated, BadNumber, BadShape, UnknownOperation, NoSuchWire, SetTwice, MAX_GATES, MAX_VALUES, Gate, Netlist, input_wires, output_wires, IsSet, IsLawful, EachRead, Word, Number, Name, SpellWords, words_of_gate, words_of_widths, number_at, limited_at, numbers_at, widths_at, gate_at, is_set, check_gate, gates_at, check_outputs, circuit_of, operation_of_two, operation_of_one, two_at, one_at, check_read, check_set, check_reads, without_outputs, SideDue, input_side, output_side, GateDue, next_gate, LimitedDue, number_of_gates, number_of_wires, number_of_values, IsCount, NumberDue, due_with_limit, due_as_width, due_in_gate, NameDue, due_as_name, FirstFault, no_number, no_name, bad_number, too_large, widths_exceed, bad_counts, unknown, other_counts, bad_constant, no_wire_to_read, unset, no_wire_to_set, set_twice, output_unset, trailing, wires_read, GateNumberDue, first_count, second_count, wire_number, IsNamed, IsFirstUnset}
use Rattle.gc_netlist.proofs.ReadingBack.{limited_back, numbers_back, widths_spelled, widths_back, gate_back, sizes_back, begun_back, lawful_back, set_below, set_read}
use Rattle.gc_netlist.proofs.LawfulLemmas.{tested_set, set_tested, outputs_are_set}
use Rattle.gc_netlist.proofs.SpellingLemmas.{Spell-split}
use Rattle.gc_netlist.proofs.GateFaults.{UnsetFault}
use Rattle.std.proofs.lemmas.Slice.Eq.{bytes_eq-Decides}

-- A gate in which a number is missing.
number_stops : (numbers : List ℕ) (us vs : List (List ℕ)) (e : ReadFault) →
    GateNumberDue numbers → SpellWords us (map Number numbers) vs → number_at vs ≡ Err e →
    gate_at us ≡ Err e
unfolding gate_at two_at one_at
number_stops _ us vs e first_count s bad = grind arith
number_stops _ us vs e (second_count r) s bad = grind arith
number_stops _ us vs e (wire_number r [] count few) s bad = grind (arith, nat_tests)
number_stops _ us vs e (wire_number r (a ∷ []) count few) s bad = grind (arith, nat_tests)
number_stops _ us vs e (wire_number r (a ∷ b ∷ []) count few) s bad = grind (arith, nat_tests)
number_stops _ us vs e (wire_number r (a ∷ b ∷ w ∷ more) count few) s bad = absurd (grind arith)

-- No operation with the counts r and 1 has this name.
abbrev Misnamed : ℕ → List ℕ → ReadFault → Type 0
Misnamed r name e = ((e ≡ UnknownOperation) × ((k : ℕ) → IsNamed k name → ⊥))
    ⊎ ((e ≡ BadShape) × (k : ℕ) × IsNamed k name × (k ≢ r))

-- What is wrong where a name is due: it is missing, or no such operation has it.
abbrev Wrong : ℕ → List (List ℕ) → ReadFault → Type 0
Wrong r [] e = e ≡ Truncated
Wrong r (name ∷ rest) e = Misnamed r name e

name_stops : (r : ℕ) (numbers : List ℕ) (us vs : List (List ℕ)) (e : ReadFault) → IsCount r →
    length numbers ≡ r + 1 → SpellWords us (map Number (r ∷ 1 ∷ numbers)) vs → Wrong r vs e →
    gate_at us ≡ Err e
unfolding gate_at two_at one_at operation_of_two operation_of_one
name_stops r (a ∷ w ∷ []) us [] e count len s wrong = grind (arith, nat_tests)
name_stops r (a ∷ b ∷ w ∷ []) us [] e count len s wrong = grind (arith, nat_tests)
name_stops r (a ∷ w ∷ []) us (name ∷ vs) e count len s (inl (is, none)) =
    grind (arith, nat_tests, bytes_eq-Decides, none 1, none 2)
name_stops r (a ∷ w ∷ []) us (name ∷ vs) e count len s (inr (is, k, named, other)) =
    grind (arith, nat_tests, bytes_eq-Decides)
name_stops r (a ∷ b ∷ w ∷ []) us (name ∷ vs) e count len s (inl (is, none)) =
    grind (arith, nat_tests, bytes_eq-Decides, none 1, none 2)
name_stops r (a ∷ b ∷ w ∷ []) us (name ∷ vs) e count len s (inr (is, k, named, other)) =
    grind (arith, nat_tests, bytes_eq-Decides)
name_stops r _ us vs e count len s wrong = absurd (grind arith)

-- A name that is spelled after other words is the token there.
name_front : (ts rest : List (List ℕ)) (words : List Word) (name : List ℕ) →
    SpellWords ts (words ++ Name name ∷ []) rest → SpellWords ts words (name ∷ rest)
name_front ts rest words name s =
    let (us, first, second) = Spell-split ts rest words (Name name ∷ []) s in
    let same : us ≡ name ∷ rest = grind arith in rw same at first

-- The wires of a gate.
module _ (c : Netlist) (lawful : IsLawful (without_outputs c)) where
  abbrev set : ℕ → Bool
  set = is_set (input_wires c) c.gates

  read_stops : (w : ℕ) (e : ReadFault) → (IsSet c w → ⊥) → UnsetFault c w e →
      check_read c.wires set w ≡ Err e
  unfolding check_read
  read_stops w e free kind =
      let no = false_from_ne_true (set w) (λ yes. free (tested_set c w yes)) in
      grind (arith, nat_tests)

  -- the first unset wire is the one that is checked
  is_unset : (ws : List ℕ) (w : ℕ) → IsFirstUnset c ws w → IsSet c w → ⊥
  is_unset [] w h = absurd h
  is_unset (a ∷ ws) w (inl (same, free)) = rw same at free
  is_unset (a ∷ ws) w (inr (set, h)) = is_unset ws w h

  unset_stops : (g : Gate) (w : ℕ) (e : ReadFault) → IsFirstUnset c (wires_read g.operation) w →
      UnsetFault c w e → check_gate c.wires set g ≡ Err e
  unfolding check_gate check_reads
  unset_stops g w e h kind =
      let bad = read_stops w e (is_unset (wires_read g.operation) w h) kind in
      grind (arith, set_read c lawful)

  set_stops : (g : Gate) (e : ReadFault) → EachRead (IsSet c) g.operation →
      ((c.wires ≤ g.set) × (e ≡ NoSuchWire)) ⊎ (IsSet c g.set × (e ≡ SetTwice)) →
      check_gate c.wires set g ≡ Err e
  unfolding check_gate check_reads check_set
  set_stops g e reads (inl (above, is)) = grind (arith, nat_tests, set_read c lawful)
  set_stops g e reads (inr (h, is)) =
      let below = set_below c lawful g.set h in let yes = set_tested c g.set h in
      grind (arith, nat_tests, set_read c lawful)

module _ (ts : List (List ℕ)) where
  -- After these words this is read, and where it has a fault, that is the fault of the circuit.
  abbrev Reads : {A : Type 0} → List Word → (List (List ℕ) → Result A ReadFault) → Type 0
  Reads words reader = (us : List (List ℕ)) (e : ReadFault) → SpellWords ts words us →
      reader us ≡ Err e → circuit_of ts ≡ Err e

  -- Words after those are at fault.
  stops : {A : Type 0} (words ws : List Word) (rest : List (List ℕ)) (e : ReadFault)
      (reader : List (List ℕ) → Result A ReadFault) → Reads words reader →
      SpellWords ts (words ++ ws) rest →
      ((us : List (List ℕ)) → SpellWords us ws rest → reader us ≡ Err e) → circuit_of ts ≡ Err e
  stops words ws rest e reader reads s bad =
      let (us, first, second) = Spell-split ts rest words ws s in reads us e first (bad us second)

  -- The widths of a side,
  side_back : (wires : ℕ) (words : List Word) → SideDue wires words → Reads words (widths_at wires)
  unfolding circuit_of
  side_back wires words (input_side n few small) us e s bad =
      let (t1, h1, h2) = sizes_back n wires ts us few small s in rw (h1, h2, bad) refl
  side_back wires words (output_side n widths few small few_values fit) us e s bad =
      let (vs, first, second) =
      Spell-split ts us (Number n ∷ Number wires ∷ []) (words_of_widths widths) s in
      let (t1, h1, h2) = sizes_back n wires ts vs few small first in
      rw (h1, h2, widths_back wires widths vs us second few_values fit, bad) refl

  -- a number with a limit,
  limited_due_back : (words : List Word) (limit : ℕ) → LimitedDue words limit →
      Reads words (limited_at limit)
  unfolding circuit_of widths_at
  limited_due_back words limit number_of_gates us e same bad = rw (same, bad) refl
  limited_due_back words limit (number_of_wires n few) us e s bad =
      let (vs, h, same) = limited_back MAX_GATES n ts us [] s few in rw (h, same, bad) refl
  limited_due_back words limit (number_of_values wires before side) us e s bad =
      side_back wires words side us e s (rw bad refl)

  -- and a gate, which is checked too.
  no_gate : (c : Netlist) (words : List Word) → GateDue c words → Reads words gate_at
  unfolding gates_at
  no_gate c words (next_gate n begun below) us e s bad =
      let left : n - length c.gates ≡ suc (n - suc (length c.gates)) = omega arith in
      rw (begun_back n c ts us begun s, left, bad) refl

  no_good_gate : (c : Netlist) (words : List Word) (g : Gate) (rest : List (List ℕ))
      (e : ReadFault) → GateDue c words → SpellWords ts (words ++ words_of_gate g) rest →
      (IsLawful (without_outputs c) →
      check_gate c.wires (is_set (input_wires c) c.gates) g ≡ Err e) → circuit_of ts ≡ Err e
  unfolding gates_at
  no_good_gate c words g rest e (next_gate n begun below) s bad =
      let (us, first, second) = Spell-split ts rest words (words_of_gate g) s in
      let left : n - length c.gates ≡ suc (n - suc (length c.gates)) = omega arith in
      rw (begun_back n c ts us begun first, left, gate_back g us rest second, bad begun.lawful) refl

  -- Where a number is due, and none is there.
  no_number_back : (words : List Word) → NumberDue words → Reads words number_at
  unfolding limited_at widths_at numbers_at
  no_number_back words (due_with_limit before limit due) us e s bad =
      limited_due_back before limit due us e s (rw bad refl)
  no_number_back words (due_as_width wires before count widths side few below) us e s bad =
      stops _ _ _ _ _ (side_back wires before side) s (λ vs s1.
      let (t1, h1, s2) = limited_back MAX_VALUES count vs us (map Number widths) s1 few in
      let left : ℕ = suc (count - suc (length widths)) in
      rw (h1, numbers_back widths count left [] t1 us (omega arith) s2, bad) refl)
  no_number_back words (due_in_gate c before numbers due in_order) us e s bad =
      stops _ _ _ _ _ (no_gate c before due) s
      (λ vs s1. number_stops numbers vs us e in_order s1 bad)

  -- Where a name is due.
  name_back : (r : ℕ) (words : List Word) → NameDue r words → (vs : List (List ℕ))
      (e : ReadFault) → SpellWords ts words vs → Wrong r vs e → circuit_of ts ≡ Err e
  name_back r words (due_as_name c before numbers due count len) vs e s wrong =
      stops before (map Number (r ∷ 1 ∷ numbers)) vs e gate_at (no_gate c before due) s
      (λ us s1. name_stops r numbers us vs e count len s1 wrong)

  -- A first fault is the fault that reading meets.
  pub first_fault-met : (e : ReadFault) → FirstFault ts e → circuit_of ts ≡ Err e
  unfolding limited_at gate_at one_at operation_of_one gates_at check_outputs
  first_fault-met e (no_number words due s) = no_number_back words due [] Truncated s refl
  first_fault-met e (no_name r words due s) = name_back r words due [] Truncated s refl
  first_fault-met e (bad_number words t rest due s none) =
      no_number_back words due (t ∷ rest) BadNumber s (rw none refl)
  first_fault-met e (too_large words limit n rest due s above) =
      stops _ _ _ _ _ (limited_due_back words limit due) s (λ us s1. grind (arith, nat_tests))
  first_fault-met e (widths_exceed wires words widths rest side few s wide) =
      stops _ _ _ _ _ (side_back wires words side) s (λ us s1.
      let past : nat_le (sum widths) wires ≡ false = grind (arith, nat_tests) in
      rw (widths_spelled wires widths us rest s1 few, past) refl)
  first_fault-met e (bad_counts c words r k rest due s bad) =
      stops _ _ _ _ _ (no_gate c words due) s (λ us s1. grind (arith, nat_tests))
  first_fault-met e (unknown r words name rest due s none) =
      name_back r words due _ _ (name_front ts rest words name s) (inl (refl, none))
  first_fault-met e (other_counts r k words name rest due s is other) =
      name_back r words due _ _ (name_front ts rest words name s) (inr (refl, k, is, other))
  first_fault-met e (bad_constant c words v w rest due s large) =
      stops _ _ _ _ _ (no_gate c words due) s (λ us s1. grind (arith, nat_tests))
  first_fault-met e (no_wire_to_read c words g w rest due s first above) =
      no_good_gate c words g rest _ due s
      (λ lawful. unset_stops c lawful g w _ first (inl (above, refl)))
  first_fault-met e (unset c words g w rest due s first below) =
      no_good_gate c words g rest _ due s
      (λ lawful. unset_stops c lawful g w _ first (inr (below, refl)))
  first_fault-met e (no_wire_to_set c words g rest due s reads above) =
      no_good_gate c words g rest _ due s
      (λ lawful. set_stops c lawful g _ reads (inl (above, refl)))
  first_fault-met e (set_twice c words g rest due s reads set) =
      no_good_gate c words g rest _ due s
      (λ lawful. set_stops c lawful g _ reads (inr (set, refl)))
  first_fault-met e (output_unset c w rest b s last below free) =
      let none : length c.gates - length c.gates ≡ 0 = omega arith in
      let range = range_with_len (c.wires - output_wires c) (output_wires c) in
      elim (cases_Bool (list_all (is_set (input_wires c) c.gates) range)) [
        | inl all ↦ absurd (free (outputs_are_set c tt (rw all refl) b.outputs_fit w last below))
        | inr some ↦ rw (begun_back (length c.gates) c ts rest b s, none, some) refl
      ]
  first_fault-met e (trailing c token rest lawful s) = lawful_back ts (token ∷ rest) c lawful s
