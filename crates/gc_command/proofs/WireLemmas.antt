-- The wires of a circuit that are set, one after another.
use Rattle.gc_command.proofs.Names.{◌≡◌, ℕ, zero, suc, ◌+◌, ◌-◌, ◌<◌, ◌≤◌, ◌++◌, Bool, true, false, List, [], ◌∷◌, length, count_by, map, take, filter, set, get_or, slice_get, slice_index_or, Some, refl, arith, range_with_len, common_steps, slice_get_within, get_or_from_slice_get, gets, take_more, get_or-map-range_with_len, length-map-range_with_len, Netlist, input_wires, is_and, is_set, WiresLeft, set_from, marked_more, marks_len}
use Rattle.gc_netlist.specs.declared.gate.Gate.{Gate}
use Rattle.gc_circuit.specs.Gates.{AreMarked}

-- the first of the wires that are left, and the others
pub opened : (i n : ℕ) → i < n → range_with_len i (n - i) ≡ i ∷ range_with_len (i + 1) (n - (i + 1))
opened i n below = let e : n - i ≡ suc (n - (i + 1)) = omega arith in rw e refl

-- the flag of a wire, read
pub flag_read : (flags : List Bool) (w : ℕ) (b : Bool) → w < length flags → b ≡ get_or flags w b
    → get_or flags w false ≡ b
flag_read flags w b below read = grind (arith, common_steps, gets)

-- one wire of those that are left
pub take_one : (k w : ℕ) (ws : List ℕ) → 0 < k → take k (w ∷ ws) ≡ w ∷ take (k - 1) ws
take_one k w ws some = grind (arith, common_steps)

-- Two tests that agree on these wires pass the same ones.
same_passed : (f g : ℕ → Bool) (a n : ℕ) → ((k : ℕ) → a ≤ k → k < a + n → f k ≡ g k)
    → filter f (range_with_len a n) ≡ filter g (range_with_len a n)
same_passed f g a zero same = refl
same_passed f g a (suc n) same =
    let rest = same_passed f g (a + 1) n (λ k above below. same k (omega arith) (omega arith)) in
    rw (same a (omega arith) (omega arith), rest) refl

-- one gate more
pub flags_more : (inputs n i : ℕ) (gates : List Gate) (g : Gate) (flags : List Bool)
    → slice_get gates i ≡ Some g → g.set < n
    → flags ≡ map (is_set inputs (take i gates)) (range_with_len 0 n)
    → set flags g.set true ≡ map (is_set inputs (take (i + 1) gates)) (range_with_len 0 n)
flags_more inputs n i gates g flags at below is =
    let within : i < length gates = slice_get_within gates i g at in
    let before = take i gates in
    let marked : AreMarked n inputs before flags (count_by (λ (x : Gate). is_and x.operation) before)
    = record { table = is; counted = refl } in
    let more : take (i + 1) gates ≡ before ++ g ∷ [] =
    rw (take_more gates i g within, get_or_from_slice_get gates i g g at) refl in
    (marked_more n inputs before _ flags _ _ _ g (omega (arith, below, marks_len inputs n before flags is))
    more refl refl marked).table

abbrev pub wires_left : ℕ → List ℕ → WiresLeft
wires_left n ws = record { wires = n; left = ws }

-- Before any wire is given, all that are set from one on are left.
pub all_left : (c : Netlist) (from count : ℕ) (flags : List Bool)
    → flags ≡ map (is_set (input_wires c) c.gates) (range_with_len 0 c.wires)
    → wires_left (length flags) (take count (filter (λ k. slice_index_or flags k false)
    (range_with_len from (length flags - from))))
    ≡ wires_left c.wires (set_from c from count)
all_left c from count flags is =
    let test = is_set (input_wires c) c.gates in
    let same = same_passed (λ k. slice_index_or (map test (range_with_len 0 c.wires)) k false) test
    from (c.wires - from) (λ k above below.
    get_or-map-range_with_len test 0 c.wires k k false (omega arith) (omega arith)) in
    rw (is, length-map-range_with_len test 0 c.wires, same) refl
