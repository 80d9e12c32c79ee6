-- The text that arrays stand for, as tokens.
use Rattle.gc_circuit.proofs.Names.{◌≡◌, ℕ, suc, ◌+◌, ◌<◌, ◌≤◌, ◌^◌, inl, inr, ◌++◌, List, [], ◌∷◌, false, None, Ok, Err, length, map, sum, take, drop, get_or, nat_le, nat_lt, codes, decimal, refl, sym, ap, ◌∙◌, bytes_eq, if◌then◌else◌, arith, flat_map, AllByRecursion, cases_Bool, nat_tests, length-map, map-append, drop_more, take_more, flat_map-map, bytes_eq-Decides, MAX_GATES, MAX_VALUES, ReadFault, TooLarge, BadNumber, UnknownOperation, BadConstant, WidthsExceedWires, Gate, netlist_of, Number, words_of_gate, words_of_widths, number_at, limited_at, widths_at, operation_of_two, constant_of, operation_of_one, two_at, one_at, gate_at, written, canonical_text, words_of_two, words_of_numbers, tokens_of, lines_of_arrays, arrays_text, text_of}
use Rattle.gc_netlist.specs.Text.{tokens, number_of}
use Rattle.gc_netlist.proofs.ReadingBack.{gate_back, widths_spelled}
use Rattle.gc_netlist.proofs.WrittenLemmas.{IsToken, IsPlain, decimal_run, number_spelled, number_too_long, lines_tokens, words_spelled}
use Rattle.gc_circuit.specs.declared.arrays.GateNumbers.{GateNumbers}
use Rattle.gc_circuit.specs.declared.arrays.Arrays.{Arrays}

-- The words of arrays are tokens as they are written.
widths_tokens : (ns : List ℕ) → AllByRecursion IsToken (map Number ns)
widths_tokens [] = tt
widths_tokens (n ∷ ns) = (tt, widths_tokens ns)

gates_tokens : (gs : List GateNumbers) →
    AllByRecursion (AllByRecursion IsToken) (map words_of_numbers gs)
gates_tokens [] = tt
gates_tokens (g ∷ gs) =
    let op = decimal_run g.operation in
    let first : AllByRecursion IsToken (words_of_numbers g) = grind (arith, nat_tests) in
    (first, gates_tokens gs)

-- What the text has after its number of gates, after its number of wires, and after the widths of its input values.
module _ (a : Arrays) where
  abbrev pub after_inputs : List (List ℕ)
  after_inputs = map written (words_of_widths a.output_widths.now) ++ tokens_of a.gates.now

  abbrev pub after_wires : List (List ℕ)
  after_wires = map written (words_of_widths a.input_widths.now) ++ after_inputs

  abbrev pub after_count : List (List ℕ)
  after_count = decimal a.wires ∷ after_wires

  arrays_tokens : tokens (text_of a) ≡ decimal (length a.gates.now) ∷ after_count
  unfolding arrays_text
  arrays_tokens =
      let ins = widths_tokens a.input_widths.now in
      let outs = widths_tokens a.output_widths.now in
      lines_tokens (lines_of_arrays a.wires a.input_widths.now a.output_widths.now a.gates.now)
      ((tt, (tt, tt)), ((tt, ins), ((tt, outs), (tt, gates_tokens a.gates.now))))
      ∙ simp (map-append, flat_map-map)

  pub count_is : limited_at MAX_GATES (tokens (text_of a))
      ≡ limited_at MAX_GATES (decimal (length a.gates.now) ∷ after_count)
  count_is = ap (limited_at MAX_GATES) arrays_tokens

-- The text is the canonical text of the gates that have its words.
pub arrays_canonical : (a : Arrays) (gates : List Gate) →
    map words_of_gate gates ≡ map words_of_numbers a.gates.now →
    canonical_text (netlist_of a.wires a.input_widths.now a.output_widths.now gates) ≡ text_of a
unfolding canonical_text arrays_text
arrays_canonical a gates same =
    let len : length gates ≡ length a.gates.now = sym (length-map gates words_of_gate)
    ∙ ap length same ∙ length-map a.gates.now words_of_numbers in
    rw (len, same) refl

-- A number is read where it is within its limit.
pub limited_read : (limit n : ℕ) (rest : List (List ℕ)) → limit < 2 ^ 32 → n < 2 ^ 64 →
    limited_at limit (decimal n ∷ rest) ≡ (if nat_le n limit then Ok (n, rest)
    else if nat_lt n (2 ^ 32) then Err TooLarge else Err BadNumber)
unfolding limited_at
limited_read limit n rest small fits = elim (cases_Bool (nat_lt n (2 ^ 32))) [
  | inl short ↦ rw (number_spelled n (grind (arith, nat_tests)), short) refl
  | inr long ↦ rw (number_too_long n (grind (arith, nat_tests)) fits, long) (grind (arith, nat_tests))
]

number_read : (n : ℕ) (rest : List (List ℕ)) → n < 2 ^ 32 →
    number_at (decimal n ∷ rest) ≡ Ok (n, rest)
number_read n rest small = rw (number_spelled n small) refl

-- Widths that are not too many are read, and then their sum is checked.
widths_plain : (ns : List ℕ) → ((k : ℕ) → get_or ns k 0 < 2 ^ 32) →
    AllByRecursion IsPlain (map Number ns)
widths_plain [] small = tt
widths_plain (n ∷ ns) small = (small 0, widths_plain ns (λ k. small (suc k)))

pub widths_read : (wires : ℕ) (ns : List ℕ) (rest : List (List ℕ)) →
    ((k : ℕ) → get_or ns k 0 < 2 ^ 32) → length ns ≤ MAX_VALUES →
    widths_at wires (map written (words_of_widths ns) ++ rest)
    ≡ (if nat_le (sum ns) wires then Ok (ns, rest) else Err WidthsExceedWires)
widths_read wires ns rest small few =
    widths_spelled wires ns _ rest
    (words_spelled (words_of_widths ns) rest (omega arith, widths_plain ns small)) few

-- Where they are too many, their number is at fault.
pub widths_stop : (wires : ℕ) (ns : List ℕ) (rest : List (List ℕ)) (e : ReadFault) →
    ((more : List (List ℕ)) → limited_at MAX_VALUES (decimal (length ns) ∷ more) ≡ Err e) →
    widths_at wires (map written (words_of_widths ns) ++ rest) ≡ Err e
unfolding widths_at
widths_stop wires ns rest e bad = rw (bad _) refl

-- The numbers of a gate have 32 bits.
module _ (g : GateNumbers) (operation : g.operation < 2 ^ 32) (first : g.first < 2 ^ 32)
    (second : g.second < 2 ^ 32) (set : g.set < 2 ^ 32) where
  -- They are read as the gate that has their words.
  pub numbers_read : (x : Gate) (rest : List (List ℕ)) → words_of_gate x ≡ words_of_numbers g →
      gate_at (map written (words_of_numbers g) ++ rest) ≡ Ok (x, rest)
  numbers_read x rest same =
      let op = decimal_run g.operation in
      let plain : AllByRecursion IsPlain (words_of_numbers g) = grind (arith, nat_tests) in
      gate_back x _ rest (rw same (words_spelled (words_of_numbers g) rest plain))

  -- A name that spells no number isn't the operation's number.
  other_name : (name : List ℕ) → number_of name ≡ None →
      bytes_eq (decimal g.operation) name ≡ false
  other_name name none =
      let spelled = number_spelled g.operation operation in grind (arith, bytes_eq-Decides)

  -- An operation that there isn't is unknown,
  pub unknown_read : (rest : List (List ℕ)) → 5 ≤ g.operation →
      gate_at (map written (words_of_numbers g) ++ rest) ≡ Err UnknownOperation
  unfolding gate_at two_at operation_of_two
  unknown_read rest none =
      let words : words_of_numbers g ≡ words_of_two g (decimal g.operation) =
      grind (arith, nat_tests) in
      let one : 1 < 2 ^ 32 = omega arith in
      let two : 2 < 2 ^ 32 = omega arith in
      rw words (simp (
        number_read,
        other_name (codes "XOR") refl,
        other_name (codes "AND") refl,
        other_name (codes "INV") refl,
        other_name (codes "EQ") refl,
        other_name (codes "EQW") refl,
      ))

  -- and a constant above 1 is none.
  pub constant_read : (rest : List (List ℕ)) → g.operation ≡ 3 → 1 < g.first →
      gate_at (map written (words_of_numbers g) ++ rest) ≡ Err BadConstant
  unfolding gate_at one_at operation_of_one
  constant_read rest is above =
      let one : 1 < 2 ^ 32 = omega arith in
      let bad : constant_of g.first ≡ Err BadConstant = grind (arith, nat_tests) in
      rw is (simp (number_read, bad))

-- A loop has checked i gates.
module _ (numbers : List GateNumbers) (i : ℕ) (d : GateNumbers) (below : i < length numbers) where
  -- The next gate's tokens come next,
  pub gate_next : tokens_of (drop i numbers)
      ≡ map written (words_of_numbers (get_or numbers i d)) ++ tokens_of (drop (i + 1) numbers)
  gate_next = rw (drop_more numbers i d below) (map-append written
      (words_of_numbers (get_or numbers i d)) (flat_map words_of_numbers (drop (i + 1) numbers)))

  -- and then the gates have the words of the numbers so far.
  pub words_more : (before : List Gate) (x : Gate) →
      map words_of_gate before ≡ map words_of_numbers (take i numbers) →
      words_of_gate x ≡ words_of_numbers (get_or numbers i d) →
      map words_of_gate (before ++ x ∷ []) ≡ map words_of_numbers (take (i + 1) numbers)
  words_more before x words same = rw (take_more numbers i d below) (simp map-append cc)
