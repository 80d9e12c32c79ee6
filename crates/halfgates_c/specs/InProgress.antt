-- Garblings and evaluations in progress that are handed out, and that a call changes.
use Rattle.std.specs.Prelude.{◌≡◌, ℕ, List, Option, Some}
use Rattle.gc_netlist.specs.Circuit.{Netlist}
use Rattle.gc_kept.specs.Garbler.{GarblerWith, IsBegunUnder, IsBegunFrom, IsNextPiece}
use Rattle.gc_kept.specs.Evaluator.{EvaluatorWith, IsBegunOn, UsesWhole}
use Rattle.gc_kept.specs.declared.held.Held.{Held}
use Rattle.gc_kept.specs.declared.held.Held.TheVariants.{Garbler, Evaluator}
use Rattle.halfgates_c.specs.declared.slot.Slot.{Slot}
use Rattle.halfgates_c.specs.Holding.{Holds}

-- C's pointer is to a handle of a garbler that has begun to garble the circuit under the seed,
pub record HoldsBegunUnder (c : Netlist) (seed : List ℕ) (slot : Slot) : Type 0 where
  pub garbler : GarblerWith
  pub begun : IsBegunUnder c seed garbler
  pub holds : Holds slot (Garbler garbler)

-- or from an offset and zero labels, its AND gates numbered from `first` on.
pub record HoldsBegunFrom (c : Netlist) (offset zero_labels : List ℕ) (first : ℕ) (slot : Slot)
    : Type 0 where
  pub garbler : GarblerWith
  pub begun : IsBegunFrom c offset zero_labels first garbler
  pub holds : Holds slot (Garbler garbler)

-- What is held is this garbler after its next piece, and a buffer begins with the piece's bytes.
pub record HoldsNext (g : GarblerWith) (held : Option Held) (before after : List ℕ) (written : ℕ)
    : Type 0 where
  pub garbler : GarblerWith
  pub next : IsNextPiece g garbler before after written
  pub holds : held ≡ Some (Garbler garbler)

-- C's pointer is to a handle of an evaluator that has begun to evaluate the circuit on these labels, its AND gates
-- numbered from `first` on.
pub record HoldsBegunOn (c : Netlist) (first : ℕ) (labels : List ℕ) (slot : Slot) : Type 0 where
  pub evaluator : EvaluatorWith
  pub begun : IsBegunOn c first labels evaluator
  pub holds : Holds slot (Evaluator evaluator)

-- What is held is this evaluator after the whole row pairs in these bytes.
pub record HoldsFed (e : EvaluatorWith) (held : Option Held) (bytes : List ℕ) (taken : ℕ)
    : Type 0 where
  pub evaluator : EvaluatorWith
  pub fed : UsesWhole e evaluator bytes taken
  pub holds : held ≡ Some (Evaluator evaluator)
