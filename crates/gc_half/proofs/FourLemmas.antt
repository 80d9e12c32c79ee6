-- Evaluating in file order, where no gate waits.
use Rattle.gc_half.proofs.Names.{◌≡◌, ℕ, ◌+◌, ◌<◌, ◌∙◌, List, length, map, slice_get, slice_index, Some, refl, arith, Gate, Netlist, IsLawful, EachRead-map, and_number, and_count, RowPair, range_with_len, table_step, length-table, EachRead-below, active_rule, AreActiveFrom, CanStep, IsStep, hash, numbered_from, active_after}
use Rattle.gc_half.proofs.AndNumbers.{and_number-below}
use Rattle.gc_half.proofs.CircuitLaw.{active_local, active-start, active-end}

-- The lane's rows are the ones that were given, and its labels are those after the first n gates.
pub record IsLane (first : ℕ) (c : Netlist) (rows : List RowPair) (inputs : List ℕ) (n : ℕ)
    (lane_rows : List RowPair) (labels : List ℕ) : Type 0 where
  pub rows_are : lane_rows ≡ rows
  pub followed : labels ≡ active_after first c rows inputs n

pub lane-start : {first : ℕ} {c : Netlist} {rows lane_rows : List RowPair}
    {inputs labels : List ℕ}
    → lane_rows ≡ rows → labels ≡ map (slice_index inputs) (range_with_len 0 c.wires)
    → IsLane first c rows inputs 0 lane_rows labels
lane-start rows_are are = record {
  rows_are = rows_are;
  followed = active-start _ _ _ _ _ are;
}

module _ {first : ℕ} {c : Netlist} {rows lane_rows : List RowPair} {inputs labels : List ℕ}
    {n : ℕ} (lawful : IsLawful c) (is : IsLane first c rows inputs n lane_rows labels) where
  abbrev h : ℕ → ℕ → ℕ
  h = numbered_from first hash

  pub lane-end : {all : List ℕ} → n ≡ length c.gates → all ≡ labels
      → AreActiveFrom first c rows inputs all
  lane-end end are = active-end first c rows inputs _ lawful (are ∙ rw end at is.followed)

  module _ {g : Gate} (at : slice_get c.gates n ≡ Some g) {k : ℕ} (numbered : k ≡ and_number c n)
    where
      pub can-step : length rows ≡ and_count c → CanStep k g lane_rows labels
      can-step count =
          let long = length-table _ c.wires labels is.followed in
          record {
            row = λ and.
                rw is.rows_are (omega (arith, numbered, count, and_number-below c n g at and));
            read = EachRead-map (λ w. w < c.wires) (λ w. w < length labels) g.operation
                (λ w b. omega (arith, long, b))
                (EachRead-below c lawful n g at);
            place = omega (arith, long, lawful.sets n g at);
          }

      pub lane-next : {new_rows : List RowPair} {new : List ℕ}
          → IsStep h k g lane_rows labels new_rows new
          → IsLane first c rows inputs (n + 1) new_rows new
      lane-next step = record {
        rows_are = step.kept ∙ is.rows_are;
        followed = step.label ∙ table_step (active_rule h c rows) (active_local h c rows) c lawful
            (slice_index inputs) labels n g 0 _ is.followed at (rw (is.rows_are, numbered) refl);
      }
