-- Which seats are those of a table of banks.
use Rattle.std.specs.Prelude.{◌≡◌, ◌≤◌}
use Rattle.atomic_table.specs.Seated.{TableId}
use Rattle.atomic_table.specs.declared.shared.Seat.{Seat}
use Rattle.gc_rounds.specs.declared.view.View.{View}
use Rattle.gc_rounds.specs.declared.view.Key.{Key}

-- The table has a word for each bank.
pub record IsTable (table : TableId) : Type 0 where
  pub words : 2 ≤ table.words
  pub slots : table.slots ≡ 0

module _ {S I : Type 0} where
  -- The seat is one of this table, and its view is of this many jobs and seats.
  pub record IsPlaceOf {T : Type 0} (table : TableId) (key : Key T) (seat : Seat S (View I))
      : Type 0 where
    pub fits : IsTable table
    pub table_id : seat.table_id ≡ table
    pub jobs : seat.me.0.jobs ≡ key.jobs
    pub whole : seat.me.0.all ≡ key.seats

  -- The seat is the same one: of the same table, with the same number.
  pub record IsSamePlace (old new : Seat S (View I)) : Type 0 where
    pub table_id : new.table_id ≡ old.table_id
    pub id : new.id ≡ old.id
    pub slots : new.me.1 ≡ old.me.1
