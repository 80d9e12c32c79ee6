-- The tables that a store begins with, but for the readers of its wires.
use Rattle.std.specs.Prelude.{◌≡◌, ℕ, ◌+◌, List, length, map, replicate, Some, slice_get}
use Rattle.std.specs.List.{range_with_len}
use Rattle.gc_netlist.specs.Circuit.{Netlist, IsLawful, and_number, and_count}
use Rattle.gc_half.specs.declared.garbling.RowPair.{RowPair}
use Rattle.gc_half.specs.Canonical.{no_rows, input_zero}
use Rattle.gc_store.specs.declared.gate_state.GateState.{GateState}
use Rattle.gc_store.specs.declared.gate_state.GateState.TheVariants as mark
use Rattle.gc_store.specs.Opening.{opening_countdown}

pub record FirstTables : Type 0 where
  pub marks : List GateState
  pub countdowns : List ℕ
  pub and_numbers : List ℕ
  pub zero_labels : List ℕ
  pub rows : List RowPair

-- A countdown for each gate, one less than the countdown that the opening begins with.
pub record AreCounted (c : Netlist) (countdowns : List ℕ) : Type 0 where
  pub count : length countdowns ≡ length c.gates
  pub counted : (i n : ℕ)
      → slice_get (map (opening_countdown c) (range_with_len 0 (length c.gates))) i ≡ Some (n + 1)
      → slice_get countdowns i ≡ Some n

-- Every gate is free in a queue of these marks and countdowns,
pub record Queues (c : Netlist) (gate_marks : List GateState) (gate_counts : List ℕ) : Type 0 where
  pub lawful : IsLawful c
  pub marks : gate_marks ≡ replicate (length c.gates) mark.Free
  pub countdowns : AreCounted c gate_counts

-- and in tables of these AND numbers, labels and rows the input wires alone have their labels.
pub record Tabulates (c : Netlist) (seed numbers labels : List ℕ) (row_pairs : List RowPair)
    : Type 0 where
  pub and_numbers : numbers ≡ map (and_number c) (range_with_len 0 (length c.gates))
  pub zero_labels : labels ≡ map (input_zero c seed) (range_with_len 0 c.wires)
  pub rows : row_pairs ≡ replicate (and_count c) no_rows

-- Both hold of the tables that a store begins with.
pub record Begins (c : Netlist) (seed : List ℕ) (t : FirstTables) : Type 0 where
  pub queue : Queues c t.marks t.countdowns
  pub tables : Tabulates c seed t.and_numbers t.zero_labels t.rows
