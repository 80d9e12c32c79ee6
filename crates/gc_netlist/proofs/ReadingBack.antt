-- What spells a lawful circuit is read as that circuit.
use Rattle.gc_netlist.proofs.CommonNames.{◌≡◌, ℕ, zero, suc, ◌+◌, ◌-◌, ◌<◌, ◌≤◌, ◌++◌, inl, inr, List, [], ◌∷◌, length, map, sum, take, append_assoc, append-nil, nat_le, Result, Ok, Err, if◌then◌else◌, refl, arith, flat_map, range_with_len, false_from_ne_true, nat_tests, common_steps, gets, list_all-from_AllPass, length-range_with_len, get_or-range_with_len, ReadFault, WidthsExceedWires, MAX_GATES, MAX_WIRES, MAX_VALUES, Gate, Netlist, netlist_of, input_wires, output_wires, IsSet, IsLawful, Word, Number, SpellWords, words_of_gate, words_of_widths, words_of_circuit, ◌>>=◌, limited_at, numbers_at, widths_at, operation_of_two, operation_of_one, two_at, one_at, gate_at, is_set, check_read, check_set, check_reads, check_gate, gates_at, check_outputs, check_end, circuit_of, without_outputs, IsBegun, words_so_far}
use Rattle.gc_netlist.proofs.Tables.{IsSetBefore-below}
use Rattle.gc_netlist.proofs.SpellingLemmas.{Spell-split}
use Rattle.gc_netlist.proofs.LawfulLemmas.{AreChecked, before_set, set_before, set_tested, IsSized, checked_lawful}

-- A number with a limit that is spelled is read.
pub limited_back : (limit n : ℕ) (ts rest : List (List ℕ)) (ws : List Word) →
    SpellWords ts (Number n ∷ ws) rest → n ≤ limit →
    (us : List (List ℕ)) × (limited_at limit ts ≡ Ok (n, us)) × SpellWords us ws rest
unfolding limited_at
limited_back limit n [] rest ws s fits = elim s [ ]
limited_back limit n (t ∷ ts) rest ws s fits = (ts, grind (arith, nat_tests), s.1)

-- Numbers are read one after another.
pub numbers_back : (ns : List ℕ) (m k : ℕ) (before : List ℕ) (ts us : List (List ℕ)) →
    m ≡ length ns + k → SpellWords ts (map Number ns) us →
    numbers_at m before ts ≡ numbers_at k (before ++ ns) us
unfolding numbers_at
numbers_back [] m k before ts us len s = grind (arith, append-nil)
numbers_back (n ∷ ns) (suc m) k before (t ∷ ts) us len s =
    grind (arith, append_assoc, numbers_back ns m k (before ++ n ∷ []) ts us (omega arith) s.1)
numbers_back (n ∷ ns) _ k before _ us len s = absurd (grind arith)

pub widths_spelled : (wires : ℕ) (widths : List ℕ) (ts us : List (List ℕ)) →
    SpellWords ts (words_of_widths widths) us → length widths ≤ MAX_VALUES →
    widths_at wires ts
    ≡ (if nat_le (sum widths) wires then Ok (widths, us) else Err WidthsExceedWires)
unfolding widths_at numbers_at
widths_spelled wires widths ts us s few =
    let (vs, h, s1) = limited_back MAX_VALUES (length widths) ts us (map Number widths) s few in
    rw (h, numbers_back widths (length widths) 0 [] vs us (omega arith) s1) refl

pub widths_back : (wires : ℕ) (widths : List ℕ) (ts us : List (List ℕ)) →
    SpellWords ts (words_of_widths widths) us → length widths ≤ MAX_VALUES → sum widths ≤ wires →
    widths_at wires ts ≡ Ok (widths, us)
widths_back wires widths ts us s few fit =
    grind (arith, nat_tests, widths_spelled wires widths ts us s few)

-- The words of a gate are read as that gate.
pub gate_back : (g : Gate) (ts rest : List (List ℕ)) → SpellWords ts (words_of_gate g) rest →
    gate_at ts ≡ Ok (g, rest)
unfolding gate_at two_at one_at operation_of_two operation_of_one
gate_back g ts rest s = grind (arith, nat_tests)

-- The gates of a lawful circuit pass their checks.
pub lawful_checked : (c : Netlist) → IsLawful c → AreChecked c.wires (input_wires c) c.gates
unfolding check_gate check_set check_reads check_read
lawful_checked c lawful i g at =
    let reads = lawful.reads i g at in
    let below = lawful.sets i g at in
    let fresh = false_from_ne_true (is_set (input_wires c) (take i c.gates) g.set)
    (λ yes. lawful.sets_once i g at (set_before c i g.set yes)) in
    grind (arith, nat_tests, before_set c i, IsSetBefore-below c lawful i)

-- Gates that pass are read one after another.
pub gates_back : (wires inputs : ℕ) (gs : List Gate) (m k : ℕ) (before : List Gate)
    (ts us : List (List ℕ)) → m ≡ length gs + k → AreChecked wires inputs (before ++ gs) →
    SpellWords ts (flat_map words_of_gate gs) us →
    gates_at wires inputs m before ts ≡ gates_at wires inputs k (before ++ gs) us
unfolding gates_at
gates_back wires inputs [] m k before ts us len ok s = grind (arith, append-nil)
gates_back wires inputs (g ∷ gs) zero k before ts us len ok s = absurd (omega arith)
gates_back wires inputs (g ∷ gs) (suc m) k before ts us len ok s =
    let (vs, first, second) = Spell-split ts us (words_of_gate g) (flat_map words_of_gate gs) s in
    let read = gate_back g ts vs first in
    let good : check_gate wires (is_set inputs before) g ≡ Ok tt =
    grind (arith, common_steps, gets, ok (length before) g) in
    let all : AreChecked wires inputs ((before ++ g ∷ []) ++ gs) = rw append_assoc ok in
    let rest = gates_back wires inputs gs m k (before ++ g ∷ []) vs us (omega arith) all second in
    rw (read, good, rest, append_assoc) refl

-- what is left to do after the gates
abbrev pub after_gates : ℕ → List ℕ → List ℕ → List Gate × List (List ℕ) → Result Netlist ReadFault
after_gates wires inputs outputs gates = do
  set ← check_outputs (netlist_of wires inputs outputs gates.0)
  end ← check_end gates.1
  Ok (netlist_of wires inputs outputs gates.0)

-- The two sizes are read.
pub sizes_back : (n wires : ℕ) (ts us : List (List ℕ)) → n ≤ MAX_GATES → wires ≤ MAX_WIRES →
    SpellWords ts (Number n ∷ Number wires ∷ []) us → (vs : List (List ℕ))
    × (limited_at MAX_GATES ts ≡ Ok (n, vs)) × (limited_at MAX_WIRES vs ≡ Ok (wires, us))
sizes_back n wires ts us few small s =
    let (vs, h1, s1) = limited_back MAX_GATES n ts us (Number wires ∷ []) s few in
    let (ws, h2, same) = limited_back MAX_WIRES wires vs us [] s1 small in
    (vs, h1, rw same at h2)

-- A wire that is set may be read.
module _ (c : Netlist) (lawful : IsLawful (without_outputs c)) where
  pub set_below : (w : ℕ) → IsSet c w → w < c.wires
  set_below w (inl input) = omega (arith, lawful.inputs_fit)
  set_below w (inr (i, below, by)) = omega (arith, lawful.sets i by.gate by.at, by.wire)

  pub set_read : (w : ℕ) → IsSet c w →
      check_read c.wires (is_set (input_wires c) c.gates) w ≡ Ok tt
  unfolding check_read
  set_read w h =
      let below = set_below w h in let yes = set_tested c w h in grind (arith, nat_tests)

-- A circuit that keeps the limits, and whose gates pass their checks, is begun.
pub checked_begun : (n : ℕ) (c : Netlist) → IsSized n c →
    AreChecked c.wires (input_wires c) c.gates → IsBegun n c
checked_begun n c sized ok =
    let lawful = checked_lawful n (without_outputs c) (omega arith) ok
    (λ w last below. absurd (omega arith)) in
    assumption

-- The header and the gates so far are read.
pub begun_back : (n : ℕ) (c : Netlist) (ts us : List (List ℕ)) → IsBegun n c →
    SpellWords ts (words_so_far n c) us →
    circuit_of ts ≡ (gates_at c.wires (input_wires c) (n - length c.gates) c.gates us >>=
    after_gates c.wires c.input_widths c.output_widths)
unfolding circuit_of
begun_back n c ts us b s =
    let inputs : List Word = words_of_widths c.input_widths in
    let outputs : List Word = words_of_widths c.output_widths in
    let gates : List Word = flat_map words_of_gate c.gates in
    let (t1, sizes, more) =
    Spell-split ts us (Number n ∷ Number c.wires ∷ []) (inputs ++ outputs ++ gates) s in
    let (t3, sides, last) = Spell-split t1 us (inputs ++ outputs) gates more in
    let (t2, one, two) = Spell-split t1 t3 inputs outputs sides in
    let (t0, h0, h1) = sizes_back n c.wires ts t1 b.few_gates b.lawful.few_wires sizes in
    let h2 = widths_back c.wires c.input_widths t1 t2 one b.lawful.few_inputs b.lawful.inputs_fit in
    let h3 = widths_back c.wires c.output_widths t2 t3 two b.few_outputs b.outputs_fit in
    let h4 = gates_back c.wires (input_wires c) c.gates n (n - length c.gates) [] t3 us
    (omega (arith, b.so_far)) (lawful_checked (without_outputs c) b.lawful) last in
    rw (h0, h1, h2, h3, h4) refl

-- After the words of a lawful circuit only the end is left to be read.
pub lawful_back : (ts rest : List (List ℕ)) (c : Netlist) → IsLawful c →
    SpellWords ts (words_of_circuit c) rest → circuit_of ts ≡ (check_end rest >>= (λ u. Ok c))
unfolding gates_at check_outputs
lawful_back ts rest c lawful s =
    let begun = checked_begun (length c.gates) c (omega arith) (lawful_checked c lawful) in
    let none : length c.gates - length c.gates ≡ 0 = omega arith in
    let first : ℕ = c.wires - output_wires c in
    let all = list_all-from_AllPass (is_set (input_wires c) c.gates)
    (range_with_len first (output_wires c)) (λ k d inside.
    let below : k < output_wires c = omega (arith, length-range_with_len first (output_wires c)) in
    rw (get_or-range_with_len first (output_wires c) k d below) (set_tested c (first + k)
    (lawful.outputs_set (first + k) (omega arith) (omega (arith, lawful.outputs_fit))))) in
    rw (begun_back (length c.gates) c ts rest begun s, none, all) refl
