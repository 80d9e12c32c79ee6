-- How far each gate is, and which gates are ready.
use Rattle.std.specs.Prelude.{◌≡◌, ◌≢◌, ℕ, ◌*◌, ◌^◌, ◌<◌, ◌≤◌, ◌↔◌, Bool, true, false, List, length, count_by, Option, Some, None, slice_get, slice_set}
use Rattle.gc_workers.specs.NumberSet.{Has}
use Rattle.gc_store.specs.declared.gate_state.GateState.{GateState}
use Rattle.gc_store.specs.declared.gate_state.GateState.TheVariants as mark

-- A mark for each gate, and its countdown: how many of its reads are of wires that are not known.
pub record GateProgress : Type 0 where
  pub marks : List GateState
  pub countdowns : List ℕ

-- Gate i is free, and its countdown is 0.
abbrev pub IsClaimable : GateProgress → ℕ → Type 0
IsClaimable s i = (slice_get s.marks i ≡ Some mark.Free) × (slice_get s.countdowns i ≡ Some 0)

-- The same with another mark for gate i.
abbrev pub with_mark : GateProgress → ℕ → GateState → GateProgress
with_mark s i m = record s { marks = slice_set s.marks i m }

-- Taking a gate: a ready gate is claimed from then on. Where none is ready there is no result, and nothing changes.
abbrev pub Takes : GateProgress → Option ℕ → GateProgress → Type 0
Takes old None new = ((i : ℕ) → ¬ IsClaimable old i) × (new ≡ old)
Takes old (Some i) new = IsClaimable old i × (new ≡ with_mark old i mark.Claimed)

-- A claimed gate is free again; others stay.
abbrev pub freed : GateState → GateState
freed mark.Free = mark.Free
freed mark.Claimed = mark.Free
freed mark.Finished = mark.Finished

-- whether a gate is claimed or finished
abbrev pub is_busy : GateState → Bool
is_busy mark.Free = false
is_busy mark.Claimed = true
is_busy mark.Finished = true

-- The queue has exactly the ready gates.
pub record IsQueue (s : GateProgress) (queued : List ℕ) (busy : ℕ) : Type 0 where
  pub few : length s.countdowns < 2 ^ 32
  pub marks : length s.marks ≡ length s.countdowns
  pub room : length s.countdowns ≤ 64 * length queued
  pub ready : (i : ℕ) → Has queued i ↔ IsClaimable s i
  -- A gate that is claimed or finished reads known wires alone.
  pub known : (i : ℕ) (m : GateState) → slice_get s.marks i ≡ Some m → m ≢ mark.Free
      → slice_get s.countdowns i ≡ Some 0
  -- This number of gates is claimed or finished.
  pub passed : busy ≡ count_by is_busy s.marks
