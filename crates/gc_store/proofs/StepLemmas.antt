-- What claiming, finishing and reopening gates keep, on contents.
use Rattle.gc_store.proofs.Names.{◌≡◌, ◌≢◌, ℕ, suc, ◌*◌, ◌<◌, ◌↔◌, ◌⊎◌, inl, List, length, length-set, map, set, slice_get, take, Option, Some, cond, true, count_by, refl, sym, ap, ◌∙◌, arith, position_or_len, cases_eq, cases_lt, length-map, take-take, slice_get_within, slice_get-get_or, slice_get-map, Gate, Netlist, EachRead, IsLawful, is_and, and_number, EachRead-map, RowPair, and_number-and, zero_label_of-gate, Task, task_of, sealed_zero_label, sealed_rows, State, Free, Claimed, Finished, Content, is_claimed, is_finished, has_rows, IsClaimed, IsFinished, IsKnown, IsReady, AllFinished, IsLawfulContent, reopened, with_sealed, one_place, slice_get-set_same, count_by-set, count_by-set_more, count_by-all, count_by-all_back, count_by-map, count_by-found, count_by-some, sum_by-take-le, passes_at_first}
use Rattle.gc_store.proofs.CountLemmas.{reopened-count}

-- ---- two gates

-- Gates at two places set two wires.
pub set-apart : (c : Netlist) → IsLawful c → (i j : ℕ) (g h : Gate) → slice_get c.gates i ≡ Some g
    → slice_get c.gates j ≡ Some h → i ≢ j → g.set ≢ h.set
set-apart c lawful i j g h at_i at_j apart same =
    grind (arith, cases_lt, lawful.sets_once i g at_i, lawful.sets_once j h at_j)

-- A gate after an AND gate has a higher AND number,
and_number-after : (c : Netlist) (i j : ℕ) (g : Gate) → slice_get c.gates i ≡ Some g
    → is_and g.operation ≡ true → i < j → and_number c i < and_number c j
and_number-after c i j g at is below =
    let front = take-take (suc i) j c.gates in
    let count = λ (x : Gate). cond (is_and x.operation) 1 0 in
    let rest = sum_by-take-le count (take j c.gates) (suc i) in
    grind (arith, front, and_number-and c i g at is, rest)

-- so AND gates at two places have two AND numbers.
pub and_number-apart : (c : Netlist) (i j : ℕ) (g h : Gate) → slice_get c.gates i ≡ Some g
    → slice_get c.gates j ≡ Some h → is_and g.operation ≡ true → is_and h.operation ≡ true
    → i ≢ j → and_number c i ≢ and_number c j
and_number-apart c i j g h at_i at_j and_i and_j apart same =
    grind (arith, and_number-after c i j g at_i and_i, and_number-after c j i h at_j and_j)

-- ---- gates in other states

-- Each gate that is finished in the first states is finished so in the second.
abbrev pub Stays : List State → List State → Type 0
Stays xs ys = (i label : ℕ) (rows : Option RowPair)
    → slice_get xs i ≡ Some (Finished label rows) → slice_get ys i ≡ Some (Finished label rows)

-- States where the same gates are finished, and each gate that is not free reads known wires alone.
pub record AreSame (s : Content) (states : List State) : Type 0 where
  pub count : length states ≡ length s.states
  pub stays : Stays s.states states
  pub back : Stays states s.states
  pub reads : (i : ℕ) (g : Gate) (state : State) → slice_get s.circuit.gates i ≡ Some g
      → slice_get states i ≡ Some state → state ≢ Free → EachRead (IsKnown s) g.operation
  pub rows : count_by has_rows states ≡ count_by has_rows s.states
  pub finished : count_by is_finished states ≡ count_by is_finished s.states

module _ {s : Content} {states : List State} (same : AreSame s states) where
  -- The same wires are known,
  pub known-same : (w : ℕ) → IsKnown s w ↔ IsKnown (record s { states = states }) w
  known-same w = grind (arith, same.stays, same.back)

  -- and a lawful content stays lawful.
  pub lawful-same : IsLawfulContent s → IsLawfulContent (record s { states = states })
  lawful-same lawful = record {
    circuit = lawful.circuit;
    states = same.count ∙ lawful.states;
    finished = λ i g label rows at has.
        lawful.finished i g label rows at (same.back i label rows has);
    reads = λ i g state at has busy.
        EachRead-map (IsKnown s) (IsKnown (record s { states = states })) g.operation
        (λ w. (known-same w).0) (same.reads i g state at has busy);
    rows = lawful.rows ∙ ap (λ n. 2 * n) (sym same.rows);
  }

module _ {s : Content} (lawful : IsLawfulContent s) where
  -- The same gates are finished once a ready gate is claimed,
  pub claim-same : (i : ℕ) → IsReady s i → AreSame s (set s.states i Claimed)
  claim-same i next =
      grind (arith, next.at, next.free, next.reads, lawful.reads, one_place, count_by-set)

  -- and once the claimed gates are free again.
  pub reopen-same : AreSame s (map reopened s.states)
  reopen-same =
      let rows = count_by-map has_rows has_rows reopened s.states (λ state. grind arith) in
      grind (arith, slice_get-map reopened s.states, length-map, lawful.reads, reopened-count)

-- ---- finishing

module _ {s : Content} (lawful : IsLawfulContent s) (i : ℕ) (g : Gate)
    (at : slice_get s.circuit.gates i ≡ Some g) (claimed : IsClaimed s i) where
  abbrev pub own : Task
  own = task_of s.circuit s.seed i g

  abbrev done : State
  done = Finished (sealed_zero_label own) (sealed_rows own)

  here : slice_get (set s.states i done) i ≡ Some done
  here = slice_get-set_same s.states i done (slice_get_within s.states i Claimed claimed)

  -- What was known is known then, and the wire that the gate sets is, too.
  pub known-finish : (w : ℕ) → (IsKnown s w ⊎ (w ≡ g.set)) ↔ IsKnown (with_sealed s own) w
  known-finish w = grind (arith, cases_eq, at, here, claimed, one_place)

  -- Finishing a claimed gate with what sealing its task gives keeps a content lawful.
  pub finish_lawful : IsLawfulContent (with_sealed s own)
  finish_lawful = record {
    circuit = lawful.circuit;
    states = length-set s.states i done ∙ lawful.states;
    finished = λ j h label rows at_j has.
        let zero = zero_label_of-gate s.circuit s.seed lawful.circuit i g at in
        grind (arith, here, lawful.finished j h label rows at_j, one_place);
    reads = λ j h state at_j has busy.
        EachRead-map (IsKnown s) (IsKnown (with_sealed s own)) h.operation
        (λ w known. (known-finish w).0 (inl known))
        (grind (arith, claimed, lawful.reads j h, one_place));
    rows = grind (arith, claimed, lawful.rows, count_by-set, count_by-set_more);
  }

-- ---- counts of gates

-- A gate is finished where its state passes.
finished_from : (s : Content) (i : ℕ) (state : State) → slice_get s.states i ≡ Some state
    → is_finished state ≡ true → IsFinished s i
finished_from s i state at is = grind arith

-- As many gates are finished as there are gates exactly where every gate is.
pub all_finished : (s : Content) → IsLawfulContent s
    → (count_by is_finished s.states ≡ length s.circuit.gates) ↔ AllFinished s
all_finished s lawful = (
  λ count i within.
      let at = slice_get-get_or s.states i Free (omega (arith, lawful.states)) in
      finished_from s i _ at
      (count_by-all_back is_finished s.states (count ∙ sym lawful.states) i _ at),
  λ all.
      count_by-all is_finished s.states (λ i state at.
      grind (arith, all i, at, slice_get_within, lawful.states)) ∙ lawful.states,
)

-- Some gates are claimed exactly where one is.
pub some_claimed : (s : Content) → (0 < count_by is_claimed s.states) ↔ ((i : ℕ) × IsClaimed s i)
some_claimed s = (
  λ some.
      let found = count_by-found is_claimed s.states some in
      let at = slice_get-get_or s.states _ Free found in
      let passes = passes_at_first is_claimed s.states Free found in
      (position_or_len is_claimed s.states, grind arith),
  λ claimed. count_by-some is_claimed s.states claimed.0 Claimed claimed.1 refl,
)
