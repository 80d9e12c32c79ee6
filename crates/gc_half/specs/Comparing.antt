-- Row pairs that are compared with given ones as they are made.
use Rattle.std.specs.Prelude.{◌≡◌, ◌≢◌, ℕ, List, take, drop, slice_get, Option, Some, None, MatchOption}
use Rattle.gc_netlist.specs.Circuit.{Netlist}
use Rattle.gc_half.specs.declared.garbling.RowPair.{RowPair}
use Rattle.gc_half.specs.declared.garbling.Mismatch.{Mismatch}
use Rattle.gc_half.specs.Garbling.{GarblingParts, FitsCircuit}
use Rattle.gc_half.specs.Canonical.{garbling_of}

-- This is the first of the given row pairs that is not the one that was made: those before it are the same.
pub record IsFirstMismatch (given made : List RowPair) (m : Mismatch) : Type 0 where
  pub before : take m.place given ≡ take m.place made
  pub given_there : slice_get given m.place ≡ Some m.given
  pub made_there : slice_get made m.place ≡ Some m.made
  pub differ : m.given ≢ m.made

-- What comparing given row pairs with those of the circuit's garbling under the seed finds: the first that is not the
-- garbling's, if there is one.
abbrev pub IsComparison : Netlist → List ℕ → List RowPair → Option Mismatch → Type 0
IsComparison c seed given first =
    let rows = (garbling_of c seed).rows in
    MatchOption first (given ≡ rows) (IsFirstMismatch given rows)

-- The zero labels are those of the circuit's garbling under the seed. The row pairs are as many, and may be others.
pub record HasLabels (c : Netlist) (seed : List ℕ) (g : GarblingParts) : Type 0 where
  pub labels : g.zero_labels ≡ (garbling_of c seed).zero_labels
  pub fits : FitsCircuit c g

-- The first n row pairs are made, in the places of given ones, and compared with these: this is their first mismatch.
-- The others are the given ones.
pub record AreCompared (given : List RowPair) (n : ℕ) (rows : List RowPair)
    (found : Option Mismatch) : Type 0 where
  pub left : drop n rows ≡ drop n given
  pub first : MatchOption found (take n given ≡ take n rows) (IsFirstMismatch given (take n rows))

-- The first mismatch, once a pair is made at a place: the one before, or else this one, if there is one.
abbrev pub IsNextMismatch : Option Mismatch → ℕ → RowPair → RowPair → Option Mismatch → Type 0
IsNextMismatch (Some m) place given made next = next ≡ Some m
IsNextMismatch None place given made next =
    MatchOption next (given ≡ made)
    (λ m. (m ≡ record { place = place; given = given; made = made }) × (given ≢ made))
