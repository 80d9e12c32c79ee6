-- How the tables of a store hold its content.
use Rattle.std.specs.Prelude.{◌≡◌, ℕ, ◌*◌, ◌↔◌, Bool, IsTrue, if◌then◌else◌, List, length, map, Option, Some, None, slice_get, slice_index, slice_index_or, count_by}
use Rattle.std.specs.List.{range_with_len}
use Rattle.gc_netlist.specs.declared.gate.Operation.{Operation}
use Rattle.gc_netlist.specs.declared.gate.Gate.{Gate}
use Rattle.gc_netlist.specs.Circuit.{Netlist, EachRead, IsSetBy, is_and, and_number, and_count}
use Rattle.gc_label.specs.Seed.{offset_of}
use Rattle.gc_half.specs.declared.garbling.RowPair.{RowPair}
use Rattle.gc_half.specs.Canonical.{zero_label_of}
use Rattle.gc_store.specs.declared.gate_state.GateState.{GateState}
use Rattle.gc_store.specs.declared.gate_state.GateState.TheVariants as mark
use Rattle.gc_store.specs.Queue as queue
use Rattle.gc_store.specs.Queue.{GateProgress}
use Rattle.gc_store.specs.Readers.{picked_reads, unknown_reads, IsLinked}
use Rattle.gc_store.specs.Content.{State, Free, Claimed, Finished, Content, is_finished, IsFinished, IsKnown, IsReady, IsLawfulContent}

-- The tables: a mark and a countdown for each gate, the first read of each wire and the next read after each, a zero
-- label for each wire, the AND number of each gate and a row pair for each AND gate. Then how many gates are finished,
-- and how many of these are AND gates.
pub record Tables : Type 0 where
  pub marks : List GateState
  pub countdowns : List ℕ
  pub firsts : List ℕ
  pub nexts : List ℕ
  pub zero_labels : List ℕ
  pub and_numbers : List ℕ
  pub rows : List RowPair
  pub finished : ℕ
  pub finished_ands : ℕ

-- the row pair that a table has at an AND number, for an AND gate
abbrev pub rows_at : List RowPair → ℕ → Operation → Option RowPair
rows_at rows k op = if is_and op then slice_get rows k else None

module _ (c : Netlist) (zero_labels : List ℕ) (rows : List RowPair) where
  -- the state of gate i, once it is finished
  abbrev pub finished_state : ℕ → Option Gate → State
  finished_state i None = Free
  finished_state i (Some g) =
      Finished (slice_index zero_labels g.set) (rows_at rows (and_number c i) g.operation)

  -- the state of gate i, by its mark
  abbrev pub state_at : ℕ → GateState → State
  state_at i mark.Free = Free
  state_at i mark.Claimed = Claimed
  state_at i mark.Finished = finished_state i (slice_get c.gates i)

  -- the state of each gate
  unfoldable pub states_of : List GateState → List State
  states_of marks =
      map (λ i. state_at i (slice_index_or marks i mark.Free)) (range_with_len 0 (length c.gates))

-- the marks and countdowns among the tables, which are the queue's
abbrev pub queue_of : Tables → GateProgress
queue_of t = record { marks = t.marks; countdowns = t.countdowns }

-- The content that the tables hold.
abbrev pub content_of : Netlist → List ℕ → Tables → Content
content_of c seed t = record {
  circuit = c;
  seed = seed;
  states = states_of c t.zero_labels t.rows t.marks;
  rows = 2 * t.finished_ands;
}

-- An unfinished gate sets wire w. Of the wires that a gate reads these are the ones that are not known.
abbrev pub IsAwaited : Content → ℕ → Type 0
IsAwaited s w = (i : ℕ) × IsSetBy s.circuit w i × (¬ IsFinished s i)

-- What the tables keep.
pub record IsKept (c : Netlist) (seed : List ℕ) (offset : ℕ) (t : Tables) : Type 0 where
  pub lawful : IsLawfulContent (content_of c seed t)
  pub offset_is : offset ≡ offset_of seed
  pub marks : length t.marks ≡ length c.gates
  pub links : IsLinked c t.firsts t.nexts
  -- whether each wire is known
  pub known : ℕ → Bool
  pub marks_known : (w : ℕ) → IsTrue (known w) ↔ IsKnown (content_of c seed t) w
  -- A gate's countdown is the number of its reads of wires that are not known.
  pub countdowns : length t.countdowns ≡ length c.gates
  pub counted : (i : ℕ) (g : Gate) → slice_get c.gates i ≡ Some g
      → slice_index_or t.countdowns i 0 ≡ unknown_reads known g.operation
  -- A wire that is not known has 0.
  pub zero_labels : t.zero_labels ≡ map
      (λ w. if known w then zero_label_of c seed w else 0) (range_with_len 0 c.wires)
  pub and_numbers : t.and_numbers ≡ map (and_number c) (range_with_len 0 (length c.gates))
  pub rows : length t.rows ≡ and_count c
  pub finished : t.finished ≡ count_by is_finished (content_of c seed t).states

-- What the tables keep, and what follows for the content: the gates of the queue are exactly the ready ones, and a
-- gate's countdown is the number of its reads whose wire an unfinished gate sets.
pub record IsStored (c : Netlist) (seed : List ℕ) (offset : ℕ) (t : Tables) : Type 0 where
  pub kept : IsKept c seed offset t
  pub ready : (i : ℕ) → queue.IsClaimable (queue_of t) i ↔ IsReady (content_of c seed t) i
  pub countdowns : (i : ℕ) (g : Gate) (awaited : ℕ → Bool) → slice_get c.gates i ≡ Some g
      → ((w : ℕ) → IsTrue (awaited w) ↔ IsAwaited (content_of c seed t) w)
      → slice_index_or t.countdowns i 0 ≡ picked_reads awaited g.operation

-- Gate i reads known wires alone.
pub record ReadsKnown (s : Content) (i : ℕ) : Type 0 where
  pub gate : Gate
  pub at : slice_get s.circuit.gates i ≡ Some gate
  pub reads : EachRead (IsKnown s) gate.operation
