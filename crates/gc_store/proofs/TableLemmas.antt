-- What opening a store, and claiming, reopening and finishing its gates, keep on its tables.
use Rattle.gc_store.proofs.Names.{◌≡◌, ◌≢◌, ℕ, ◌+◌, ◌<◌, ◌≤◌, ◌↔◌, ◌⊎◌, ◌==◌, IsTrue, List, length, length-set, map, set, get_or, slice_get, Option, Some, None, is_some, Bool, true, false, if◌then◌else◌, sym, ap, ◌∙◌, subst, arith, replicate, refl, range_with_len, cases_eq, nat_tests, length-map, get_or-set_same, get_or-set_other, get_or-replicate, slice_get-map, slice_get-get_or, get_or_from_slice_get, slice_get_within, gets, Operation, Gate, Netlist, is_and, and_number, input_wires, and_count, length-table, set-table, read-table, offset_of, RowPair, zero_label_of, and_number-below, zero_label_of-gate, zero_label_of-input, GateProgress, freed, reads_of, unknown_reads, IsLinked, one_place, slice_get-set_other, slice_get-set_same, count_by-set_more, slice_get-table, count_by-replicate, slice_get-replicate, Task, task_of, sealed_zero_label, sealed_rows, State, Free, Claimed, Finished, IsClaimed, IsKnown, IsReady, IsLawfulContent, is_finished, opened, with_sealed, reopened, Tables, finished_state, state_at, states_of, content_of, IsKept, get_or-map, length-replicate, fill_by_all, no_rows, GateState, is_below, opening_countdown}
use mathlib.Core.Logic.Iff
use Rattle.gc_store.specs.declared.gate_state.GateState.TheVariants as mark
use mathlib.Core.Path.{fun_ext}
use Rattle.gc_store.proofs.StepLemmas.{set-apart, and_number-apart, AreSame, known-same, lawful-same, claim-same, reopen-same, known-finish, finish_lawful}
use Rattle.gc_store.specs.Beginning.{Queues, Tabulates}

-- what a list with one place set has at each place, for `grind`
ruleset place_set = (one_place, get_or-set_same, get_or-set_other)

-- the state of gate i
pub state_is : (c : Netlist) (t : Tables) (i : ℕ) → i < length c.gates
    → slice_get (states_of c t.zero_labels t.rows t.marks) i
    ≡ Some (state_at c t.zero_labels t.rows i (get_or t.marks i mark.Free))
unfolding states_of
state_is c t i within =
    slice_get-table (λ k. state_at c t.zero_labels t.rows k (get_or t.marks k mark.Free))
    (length c.gates) i within

-- the states are these where each gate has its own
pub states_are : (c : Netlist) (labels : List ℕ) (rows : List RowPair) (marks : List GateState)
    (states : List State) → length states ≡ length c.gates → ((k : ℕ) → k < length c.gates
    → slice_get states k ≡ Some (state_at c labels rows k (get_or marks k mark.Free)))
    → states_of c labels rows marks ≡ states
unfolding states_of
states_are c labels rows marks states count each =
    sym (fill_by_all (λ k. state_at c labels rows k (get_or marks k mark.Free)) states
    (length c.gates) Free count (λ k below. get_or_from_slice_get states k _ Free (each k below)))

-- the zero label that a table has, where it is known
abbrev pub known_label : Netlist → List ℕ → (ℕ → Bool) → ℕ → ℕ
known_label c seed known w = if known w then zero_label_of c seed w else 0

-- each wire has a zero label
pub label_count : {c : Netlist} {seed : List ℕ} {r : ℕ} {t : Tables} → IsKept c seed r t
    → length t.zero_labels ≡ c.wires
label_count {c = c} {seed = seed} {t = t} kept =
    length-table (known_label c seed kept.known) c.wires t.zero_labels kept.zero_labels

-- ---- claiming and reopening

module _ {c : Netlist} {seed : List ℕ} {r : ℕ} {t : Tables} (kept : IsKept c seed r t) where
  -- other marks keep what the tables keep, where the same gates are finished
  marks_keep : (marks : List GateState) (states : List State) → length marks ≡ length t.marks
      → states_of c t.zero_labels t.rows marks ≡ states → AreSame (content_of c seed t) states
      → IsKept c seed r (record t { marks = marks })
  marks_keep marks states count are same = record {
    lawful = rw are (lawful-same same kept.lawful);
    offset_is = kept.offset_is;
    marks = count ∙ kept.marks;
    links = kept.links;
    known = kept.known;
    marks_known = λ w. rw are (Iff.trans (kept.marks_known w) (known-same same w));
    countdowns = kept.countdowns;
    counted = kept.counted;
    zero_labels = kept.zero_labels;
    and_numbers = kept.and_numbers;
    rows = kept.rows;
    finished = rw are (kept.finished ∙ sym same.finished);
  }

  -- the states once a ready gate is claimed
  pub states-claim : (i : ℕ) → IsReady (content_of c seed t) i
      → states_of c t.zero_labels t.rows (set t.marks i mark.Claimed)
      ≡ set (states_of c t.zero_labels t.rows t.marks) i Claimed
  states-claim i next = states_are c t.zero_labels t.rows (set t.marks i mark.Claimed) _
      (grind (arith, kept.lawful.states, length-set)) (λ k below.
      let was = state_is c t k below in
      grind (arith, kept.marks, kept.lawful.states, place_set))

  -- claiming a ready gate keeps what the tables keep
  pub claim_keeps : (i : ℕ) → IsReady (content_of c seed t) i
      → IsKept c seed r (record t { marks = set t.marks i mark.Claimed })
  claim_keeps i next = marks_keep _ _ (length-set t.marks i mark.Claimed) (states-claim i next)
      (claim-same kept.lawful i next)

  -- the states once the claimed gates are free again
  pub states-reopen : states_of c t.zero_labels t.rows (map freed t.marks)
      ≡ map reopened (states_of c t.zero_labels t.rows t.marks)
  states-reopen = states_are c t.zero_labels t.rows (map freed t.marks) _
      (grind (arith, length-map, kept.lawful.states)) (λ k below.
      let was = state_is c t k below in
      let marks = get_or-map freed t.marks k mark.Free in
      grind (arith, slice_get-map reopened (states_of c t.zero_labels t.rows t.marks) k))

  -- freeing the claimed gates keeps what the tables keep
  pub reopen_keeps : IsKept c seed r (record t { marks = map freed t.marks })
  reopen_keeps = marks_keep _ _ (length-map t.marks freed) states-reopen (reopen-same kept.lawful)

-- ---- finishing

-- rows with a row pair put in at an AND number, if there is one
abbrev pub rows_set : List RowPair → ℕ → Option RowPair → List RowPair
rows_set rows k None = rows
rows_set rows k (Some pair) = set rows k pair

-- one more where there is a row pair
abbrev pub ands_set : ℕ → Option RowPair → ℕ
ands_set n None = n
ands_set n (Some pair) = n + 1

-- the tables with these marks and countdowns, once a gate that sets wire w and has the AND number k
-- is finished with a label and perhaps a row pair
abbrev pub finished_tables : Tables → GateProgress → ℕ → ℕ → ℕ → Option RowPair → Tables
finished_tables t q w k label pair = record t {
  marks = q.marks;
  countdowns = q.countdowns;
  zero_labels = set t.zero_labels w label;
  rows = rows_set t.rows k pair;
  finished = t.finished + 1;
  finished_ands = ands_set t.finished_ands pair;
}

-- what is known once wire w is, too
abbrev pub with_known : (ℕ → Bool) → ℕ → ℕ → Bool
with_known known w v = if v == w then true else known v

-- and what its test tells
with_known-is : (known : ℕ → Bool) (w v : ℕ) (Old New : Type 0) → IsTrue (known v) ↔ Old
    → (Old ⊎ (v ≡ w)) ↔ New → IsTrue (with_known known w v) ↔ New
with_known-is known w v Old New is more = grind (arith, nat_tests)

-- the reads of a wire that was not known are unknown no more
unknown_reads-less : (known : ℕ → Bool) (w : ℕ) → known w ≡ false → (op : Operation)
    → unknown_reads (with_known known w) op + reads_of w op ≡ unknown_reads known op
unknown_reads-less known w new op = grind (arith, nat_tests)

module _ {c : Netlist} {seed : List ℕ} {r : ℕ} {t : Tables} (kept : IsKept c seed r t) (i : ℕ)
    (g : Gate) (at : slice_get c.gates i ≡ Some g) where
  -- the tables with these countdowns once gate i is finished with a label and perhaps a row pair
  abbrev pub tables_with : ℕ → Option RowPair → List ℕ → Tables
  tables_with label pair countdowns = finished_tables t
      (record { marks = set t.marks i mark.Finished; countdowns = countdowns }) g.set
      (and_number c i) label pair

  module _ (label : ℕ) (pair : Option RowPair) (and_alone : is_some pair ≡ is_and g.operation) where
    abbrev after : Tables
    after = tables_with label pair t.countdowns

    here : finished_state c after.zero_labels after.rows i (slice_get c.gates i)
        ≡ Finished label pair
    here =
        let wire = kept.lawful.circuit.sets i g at in
        let number = and_number-below c i g at in
        grind (arith, label_count kept, kept.rows, get_or-set_same, slice_get-set_same)

    elsewhere : (j : ℕ) (h : Gate) → slice_get c.gates j ≡ Some h → j ≢ i → (m : GateState)
        → state_at c after.zero_labels after.rows j m ≡ state_at c t.zero_labels t.rows j m
    elsewhere j h at_j other m =
        let sets = set-apart c kept.lawful.circuit j i h g at_j at other in
        let numbers = and_number-apart c j i h g at_j at in
        grind (arith, get_or-set_other, slice_get-set_other)

    states-finish : states_of c after.zero_labels after.rows after.marks
        ≡ set (states_of c t.zero_labels t.rows t.marks) i (Finished label pair)
    states-finish = states_are c after.zero_labels after.rows after.marks _
        (grind (arith, kept.lawful.states, length-set)) (λ k below.
        let at_k = slice_get-get_or c.gates k g below in
        let was = state_is c t k below in
        let still = elsewhere k (get_or c.gates k g) at_k in
        grind (arith, here, kept.marks, kept.lawful.states, place_set))

  module _ (claimed : IsClaimed (content_of c seed t) i) where
    abbrev pub own : Task
    own = task_of c seed i g

    -- the wire that a claimed gate sets is not known
    set_unknown : kept.known g.set ≡ false
    set_unknown =
        let apart = set-apart c kept.lawful.circuit in
        grind (arith, kept.marks_known g.set, cases_eq, kept.lawful.circuit.sets_once i g at, apart)

    -- a gate's countdown is no less than its reads of the wire
    pub counts_set : (j : ℕ) (h : Gate) → slice_get c.gates j ≡ Some h
        → reads_of g.set h.operation ≤ get_or t.countdowns j 0
    counts_set j h at_j =
        let less = unknown_reads-less kept.known g.set set_unknown h.operation in
        omega (arith, less, kept.counted j h at_j)

    module _ (countdowns : List ℕ) where
      -- the tables once gate i is finished with what sealing its task gives
      abbrev pub sealed_tables : Tables
      sealed_tables = tables_with (sealed_zero_label own) (sealed_rows own) countdowns

      states-sealed : states_of c sealed_tables.zero_labels sealed_tables.rows sealed_tables.marks
          ≡ set (states_of c t.zero_labels t.rows t.marks) i
          (Finished (sealed_zero_label own) (sealed_rows own))
      states-sealed = states-finish (sealed_zero_label own) (sealed_rows own) (grind arith)

      -- hold the content that finishing its task gives
      pub content-finish : content_of c seed sealed_tables ≡ with_sealed (content_of c seed t) own
      content-finish = grind (arith, states-sealed)

      -- finishing keeps what the tables keep
      pub finish_keeps : length countdowns ≡ length t.countdowns
          → ((j : ℕ) (h : Gate) → slice_get c.gates j ≡ Some h
          → get_or countdowns j 0 + reads_of g.set h.operation ≡ get_or t.countdowns j 0)
          → IsKept c seed r sealed_tables
      finish_keeps count counted = record {
        lawful = subst IsLawfulContent (sym content-finish)
            (finish_lawful kept.lawful i g at claimed);
        offset_is = kept.offset_is;
        marks = length-set t.marks i mark.Finished ∙ kept.marks;
        links = kept.links;
        known = with_known kept.known g.set;
        marks_known = λ w. subst (λ x. IsTrue (with_known kept.known g.set w) ↔ IsKnown x w)
            (sym content-finish) (with_known-is kept.known g.set w _ _ (kept.marks_known w)
            (known-finish kept.lawful i g at claimed w));
        countdowns = count ∙ kept.countdowns;
        counted = λ j h at_j.
            let less = unknown_reads-less kept.known g.set set_unknown h.operation in
            omega (arith, less, counted j h at_j, kept.counted j h at_j);
        zero_labels =
            let zero = zero_label_of-gate c seed kept.lawful.circuit i g at in
            let table = set-table (known_label c seed kept.known) c.wires g.set
            (sealed_zero_label own) (kept.lawful.circuit.sets i g at) in
            rw (kept.zero_labels, table) (ap (λ (f : ℕ → ℕ). map f (range_with_len 0 c.wires))
            (fun_ext (λ w. grind (arith, nat_tests, zero))));
        and_numbers = kept.and_numbers;
        rows = grind (arith, kept.rows, length-set);
        finished = grind (arith, kept.finished, states-sealed, claimed, count_by-set_more);
      }

-- ---- opening

module _ (c : Netlist) (opening : List ℕ)
    (is : opening ≡ map (opening_countdown c) (range_with_len 0 (length c.gates))) where
  -- the countdowns that are handed to the opening are one for each gate,
  pub opening_count : length opening ≡ length c.gates
  opening_count = length-table (opening_countdown c) (length c.gates) opening is

  -- none of them 0
  pub opening_positive : (i : ℕ) → i < length opening → 0 < get_or opening i 0
  opening_positive i within =
      let below : i < length c.gates = omega (arith, opening_count) in
      let read = read-table (opening_countdown c) (length c.gates) i 0 below in grind arith

module _ (c : Netlist) (seed : List ℕ) (t : Tables) (links : IsLinked c t.firsts t.nexts)
    (queue : Queues c t.marks t.countdowns)
    (tables : Tabulates c seed t.and_numbers t.zero_labels t.rows) (none : t.finished ≡ 0)
    (no_ands : t.finished_ands ≡ 0) where
  -- every gate is free
  states : states_of c t.zero_labels t.rows t.marks ≡ replicate (length c.gates) Free
  states = states_are c _ _ _ _ (length-replicate (length c.gates) Free) (λ k below.
      grind (arith, gets, length-replicate, get_or-replicate, queue.marks))

  -- so it has the content of a new store,
  pub opened_content : content_of c seed t ≡ opened c seed
  opened_content = rw (states, no_ands)

  -- and keeps what stores keep
  pub opened_kept : (r : ℕ) → r ≡ offset_of seed → IsKept c seed r t
  opened_kept r offset = record {
    lawful = rw (states, no_ands)
        (grind (arith, queue.lawful, length-replicate, slice_get-replicate, count_by-replicate));
    offset_is = offset;
    marks = ap length queue.marks ∙ length-replicate (length c.gates) mark.Free;
    links = links;
    known = is_below (input_wires c);
    -- the input wires are known at first, and no others
    marks_known = λ w. rw (states, no_ands) (grind (arith, nat_tests, slice_get-replicate));
    countdowns = queue.countdowns.count;
    counted = λ i g at.
        let opening = slice_get-table (opening_countdown c) (length c.gates) i
        (slice_get_within c.gates i g at) in
        get_or_from_slice_get t.countdowns i _ 0 (queue.countdowns.counted i _ (grind arith));
    zero_labels = tables.zero_labels ∙ ap (λ (f : ℕ → ℕ). map f (range_with_len 0 c.wires))
        (fun_ext (λ w. grind (arith, nat_tests, zero_label_of-input c seed queue.lawful w)));
    and_numbers = tables.and_numbers;
    rows = ap length tables.rows ∙ length-replicate (and_count c) no_rows;
    finished = rw (none, states) (sym (count_by-replicate is_finished (length c.gates) Free refl));
  }
