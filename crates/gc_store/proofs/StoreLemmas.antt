-- What the calls of a store say of its content, from its tables.
use Rattle.gc_store.proofs.Names.{◌≡◌, ℕ, ◌+◌, ◌<◌, ◌↔◌, IsTrue, List, length, set, get_or, slice_get, slice_index, Option, Some, None, Bool, count_by, refl, sym, ap, ◌∙◌, arith, cases_eq, slice_get_within, slice_get_cases, get_or_from_slice_get, Operation, Gate, Netlist, EachRead, IsSet, IsSetBefore, output_wires, and_number, EachRead-map, read-table, IsSetBefore-below, offset_of, input_label_of, RowPair, zero_label_of, and_number-below, canonical-garbling, GateProgress, is_busy, with_mark, Takes, reads_of, unknown_reads, slice_get-set_same, count_by-both, Task, task_of, sealed_zero_label, sealed_rows, Content, is_claimed, is_finished, IsClaimed, IsKnown, IsReady, AllFinished, with_sealed, IsOwnTask, Claims, Tables, queue_of, content_of, IsKept, IsAwaited, IsStored, picked_reads, ReadsKnown}
use mathlib.Core.Logic.Iff
use Rattle.gc_store.specs.declared.gate_state.GateState.TheVariants as mark
use Rattle.gc_netlist.specs.declared.gate.Operation.TheVariants.{And}
use Rattle.gc_half.specs.Hash.{hash}
use Rattle.gc_half.specs.Garbling.{rows_of, IsGarbled}
use Rattle.gc_half.specs.OneGate.{first_read, second_read}
use Rattle.gc_half.proofs.NumberedLemmas.{zero-IsGarbling}
use Rattle.gc_half.proofs.GarblingLemmas.{IsGarbling-same}
use Rattle.gc_store.specs.Queue as queue
use Rattle.gc_store.proofs.StepLemmas.{set-apart}
pub use Rattle.gc_store.proofs.TableLemmas.{state_is, known_label, label_count, finished_tables, sealed_tables, claim_keeps, states-claim, finish_keeps, content-finish, reopen_keeps, states-reopen, opened_kept, opened_content, counts_set}

-- what a list has at a place, for `grind`
ruleset at_place = (slice_get_within, slice_get_cases, get_or_from_slice_get)

-- no read is unknown exactly where each is known
none_unknown : (known : ℕ → Bool) (Known : ℕ → Type 0)
    → ((w : ℕ) → IsTrue (known w) ↔ Known w) → (op : Operation)
    → (unknown_reads known op ≡ 0) ↔ EachRead Known op
none_unknown known Known is op = grind arith

-- a read that is not known is picked
same_reads : (known test : ℕ → Bool) (op : Operation)
    → EachRead (λ w. (¬ IsTrue (known w)) ↔ IsTrue (test w)) op
    → unknown_reads known op ≡ picked_reads test op
same_reads known test op each = grind arith

module _ {c : Netlist} {seed : List ℕ} {r : ℕ} {t : Tables} (kept : IsKept c seed r t) where
  abbrev pub s : Content
  s = content_of c seed t

  -- as many gates are claimed as are busy and not finished
  pub claimed_count : count_by is_busy t.marks ≡ count_by is_claimed s.states + t.finished
  claimed_count = rw kept.finished (count_by-both is_busy is_claimed is_finished t.marks s.states
      (kept.marks ∙ sym kept.lawful.states) (λ i m state at has.
      grind (arith, at_place, kept.marks, state_is c t i)))

  set_of : (w : ℕ) → IsKnown s w → IsSet c w
  set_of w known = grind (arith, known, slice_get_within)

  label_at : (w : ℕ) → w < c.wires → get_or t.zero_labels w 0 ≡ known_label c seed kept.known w
  label_at w below =
      rw kept.zero_labels (read-table (known_label c seed kept.known) c.wires w 0 below)

  -- the table has the zero label of a wire that is known
  known_label_is : (w : ℕ) → IsKnown s w → get_or t.zero_labels w 0 ≡ zero_label_of c seed w
  known_label_is w known =
      let below = IsSetBefore-below c kept.lawful.circuit _ w (set_of w known) in
      grind (arith, label_at w below, (kept.marks_known w).1 known)

  -- the task made of the tables is the store's own
  pub own_task : (task : Task) (g : Gate) → ReadsKnown s task.gate
      → slice_get c.gates task.gate ≡ Some g → task.operation ≡ g.operation
      → task.and_number ≡ get_or t.and_numbers task.gate task.and_number → task.offset ≡ r
      → task.first ≡ first_read (slice_index t.zero_labels) g.operation
      → task.second ≡ second_read (slice_index t.zero_labels) g.operation → IsOwnTask s task
  own_task task g reads at op number offset first second =
      let within = slice_get_within c.gates task.gate g at in
      let table = read-table (and_number c) (length c.gates) task.gate task.and_number within in
      grind (arith, table, kept.and_numbers, reads.at, reads.reads, known_label_is, kept.offset_is)

  -- a gate's mark is claimed where its state is
  pub claimed_is : (i : ℕ) → (slice_get t.marks i ≡ Some mark.Claimed) ↔ IsClaimed s i
  claimed_is i = grind (arith, at_place, kept.marks, kept.lawful.states, state_is c t i)

  -- a claimed gate reads known wires alone
  pub claimed_reads : (i : ℕ) → IsClaimed s i → ReadsKnown s i
  claimed_reads i claimed =
      let gate = slice_get_cases c.gates i in
      grind (arith, slice_get_within, kept.lawful.states, kept.lawful.reads i, gate)

  -- exactly the gates of the queue are ready
  queued_is : (i : ℕ) → queue.IsClaimable (queue_of t) i ↔ IsReady s i
  queued_is i =
      let at = slice_get_cases c.gates i in
      let none = none_unknown kept.known (IsKnown s) kept.marks_known in
      grind (arith, at_place, kept.marks, kept.countdowns, at, state_is c t i, none, kept.counted i)

  -- a wire that is set before a gate is not known exactly where an unfinished gate sets it
  awaited_is : (n w : ℕ) → IsSetBefore c n w → (¬ IsKnown s w) ↔ IsAwaited s w
  awaited_is n w set =
      grind (arith, set, cases_eq, kept.lawful.circuit.sets_once, set-apart c kept.lawful.circuit)

  -- what follows for the content from what the tables keep
  pub stored : IsStored c seed r t
  stored = record {
    kept = kept;
    ready = queued_is;
    countdowns = λ i g test at waits. kept.counted i g at ∙ same_reads kept.known test g.operation
        (EachRead-map (IsSetBefore c i) (λ w. (¬ IsTrue (kept.known w)) ↔ IsTrue (test w)) _
        (λ w set. Iff.trans (Iff.not (kept.marks_known w))
        (Iff.trans (awaited_is i w set) (Iff.symm (waits w)))) (kept.lawful.circuit.reads i g at));
  }

  -- the tables are the garbling once all gates are finished
  pub garbling_is : AllFinished s → IsGarbled c seed
      (record { zero_labels = t.zero_labels; rows = t.rows; outputs = output_wires c })
  garbling_is all = record {
    garbling = zero-IsGarbling hash (offset_of seed) c _ _ _
        (IsGarbling-same hash (offset_of seed) c kept.lawful.circuit (input_label_of seed)
        (zero_label_of c seed) (slice_index t.zero_labels) t.rows
        (λ w set. sym (known_label_is w (known_set w set))) (record {
          labels = (canonical-garbling c seed kept.lawful.circuit).labels;
          and_gates = and_rows;
          row_count = kept.rows;
        }));
    wires = label_count kept;
    not_set = λ w below not_set. grind (arith, label_at w below, kept.marks_known w, set_of w);
    outputs = refl;
  }
    where
      known_set : (w : ℕ) → IsSet c w → IsKnown s w
      known_set w set = grind (arith, set, all)

      and_rows : (i : ℕ) (g : Gate) (a b : ℕ) → slice_get c.gates i ≡ Some g → g.operation ≡ And a b
          → slice_get t.rows (and_number c i)
          ≡ Some (rows_of hash (offset_of seed) (zero_label_of c seed) (and_number c i) a b)
      and_rows i g a b at is =
          grind (arith, all i, slice_get_within, state_is c t i, kept.lawful.finished i g)

-- ---- keeping a sealed task

module _ {c : Netlist} {seed : List ℕ} {r : ℕ} {t : Tables} (kept : IsKept c seed r t)
    (task sealed : Task) (is_sealed : task ≡ sealed)
    (own : IsOwnTask (content_of c seed t) sealed) where
  -- an AND gate's number is a place of the table of rows
  pub number_within : (pair : RowPair) → Some pair ≡ sealed_rows sealed
      → task.and_number < length t.rows
  number_within pair is =
      grind (arith, own.same, kept.rows, and_number-below c sealed.gate own.gate own.at)

  -- The task's gate is marked as finished, and the gates that read its wire are counted down.
  module _ (g : Gate) (marked q : GateProgress) (label : ℕ) (pair : Option RowPair)
      (claimed : IsClaimed (content_of c seed t) sealed.gate)
      (at : slice_get c.gates task.gate ≡ Some g)
      (marks : marked ≡ with_mark (queue_of t) task.gate mark.Finished)
      (q_marks : q.marks ≡ marked.marks) (count : length q.countdowns ≡ length marked.countdowns)
      (counted : (j : ℕ) (h : Gate) → slice_get c.gates j ≡ Some h
      → get_or q.countdowns j 0 + reads_of g.set h.operation ≡ get_or marked.countdowns j 0)
      (label_is : label ≡ sealed_zero_label sealed) (pair_is : pair ≡ sealed_rows sealed) where
    own_is : sealed ≡ task_of c seed task.gate g
    own_is = grind (arith, own.at, own.same)

    claimed' : IsClaimed (content_of c seed t) task.gate
    claimed' = rw (← is_sealed) at claimed

    tables_are : finished_tables t q g.set task.and_number label pair
        ≡ sealed_tables kept task.gate g at claimed' q.countdowns
    tables_are = cc own_is

    -- the tables keep what they kept,
    pub sealed_keeps : IsStored c seed r (finished_tables t q g.set task.and_number label pair)
    sealed_keeps = rw tables_are (stored (finish_keeps kept task.gate g at claimed' q.countdowns
        (grind (arith, count, marks)) (λ j h at_j. grind (arith, counted j h at_j, marks))))

    -- and hold the content that finishing the task gives
    pub sealed_content : content_of c seed (finished_tables t q g.set task.and_number label pair)
        ≡ with_sealed (content_of c seed t) sealed
    sealed_content = ap (content_of c seed) tables_are
        ∙ content-finish kept task.gate g at claimed' q.countdowns
        ∙ ap (with_sealed (content_of c seed t)) (sym own_is)

-- ---- claiming

-- the tables with another queue
abbrev pub with_queue : Tables → GateProgress → Tables
with_queue t q = record t { marks = q.marks; countdowns = q.countdowns }

module _ {c : Netlist} {seed : List ℕ} {r : ℕ} {t : Tables} (kept : IsKept c seed r t)
    (q : GateProgress) where
  module _ (i : ℕ) (takes : Takes (queue_of t) (Some i) q) where
    next : IsReady (content_of c seed t) i
    next = (queued_is kept i).0 takes.0

    -- a ready gate that was taken is claimed,
    pub take_keeps : IsStored c seed r (with_queue t q)
    take_keeps = stored (rw takes.1 (claim_keeps kept i next))

    -- reads known wires alone,
    pub taken_reads : ReadsKnown (content_of c seed (with_queue t q)) i
    taken_reads = claimed_reads take_keeps.kept i ((claimed_is take_keeps.kept i).0
        (rw takes.1 (slice_get-set_same t.marks i mark.Claimed
        (slice_get_within t.marks i mark.Free takes.0.0))))

    -- and so it is a claim
    pub claims : (task : Task) → task.gate ≡ i → IsOwnTask (content_of c seed (with_queue t q)) task
        → Claims (content_of c seed t) (Some task) (content_of c seed (with_queue t q))
    claims task gate owned =
        let own : IsOwnTask (content_of c seed t) task =
        record { gate = owned.gate; at = owned.at; same = owned.same } in
        (rw gate next, own, rw (gate, takes.1, states-claim kept i next))

  pub claims_none : (task : Option Task) → task ≡ None → Takes (queue_of t) None q
      → Claims (content_of c seed t) task (content_of c seed (with_queue t q))
  claims_none task is takes =
      rw (is, takes.1) (λ i next. takes.0 i ((queued_is kept i).1 next), refl)
