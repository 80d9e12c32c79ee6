-- A circuit that is garbled gate after gate, of which the first gates are garbled.
use Rattle.std.specs.Prelude.{◌≡◌, ℕ, ◌<◌, ◌≤◌, List, length, slice_index}
use Rattle.gc_netlist.specs.Circuit.{Netlist, IsSetBefore}
use Rattle.gc_netlist.specs.Solution.{values_after}
use Rattle.gc_half.specs.declared.garbling.RowPair.{RowPair}
use Rattle.gc_half.specs.Garbling.{zero_rule}
use Rattle.gc_half.specs.Canonical.{rows_after}

-- The offset is r, and these zero labels of the input wires are given. The hash may be any.
module _ (h : ℕ → ℕ → ℕ) (r : ℕ) (c : Netlist) (given : List ℕ) where
  -- the zero labels after the first n gates
  abbrev pub labels_after : ℕ → ℕ → ℕ
  labels_after n = values_after (zero_rule h r c) c (slice_index given) n

  -- the zero labels after the last gate
  unfoldable pub label_of : ℕ → ℕ
  label_of = labels_after (length c.gates)

  -- The first n gates are garbled. The labels of the wires that they leave set are in a table that may end after the
  -- last of them. Behind it, and where no wire is set, there is 0.
  pub record AreGarbled (n : ℕ) (labels : List ℕ) (rows : List RowPair) : Type 0 where
    pub few : length labels ≤ c.wires
    pub there : (w : ℕ) → IsSetBefore c n w → w < length labels
    pub right : (w : ℕ) → slice_index labels w ≡ labels_after n w
    pub row_pairs : rows ≡ rows_after h r c label_of n
