-- An evaluation in progress with its circuit, and the bytes of the row pairs that come.
use Rattle.std.specs.Prelude.{◌≡◌, ◌≢◌, ℕ, ◌+◌, ◌*◌, ◌/◌, ◌^◌, ◌<◌, ◌≤◌, List, [], length, flat_map, take}
use Rattle.gc_netlist.specs.Circuit.{Netlist, and_count, input_wires, output_wires}
use Rattle.gc_label.specs.Label.{bytes_of_label}
use Rattle.gc_half.specs.declared.garbling.RowPair.{RowPair}
use Rattle.gc_half.specs.Joined.{AreOutputLabels}
use Rattle.gc_half.specs.Streaming.{StreamingEvaluatorParts, IsEvaluatedSoFar, EvaluatesPiece}
use Rattle.gc_job.specs.declared.fault.EvalFault.TheVariants as eval
use Rattle.gc_kept.specs.declared.fault.KeptFault.{KeptFault}
use Rattle.gc_kept.specs.declared.fault.KeptFault.TheVariants.{Evaluation, BadArgument, Memory, Unfinished, WrongSize}
use Rattle.gc_kept.specs.Files.{HasRoomFault, IsFileAt}
use Rattle.gc_kept.specs.Labels.{AreLabels, AreRows}

-- An evaluation in progress, with its circuit.
pub record EvaluatorWith : Type 0 where
  pub circuit : Netlist
  pub evaluator : StreamingEvaluatorParts

-- It is that of this circuit on the active labels of the input wires that these bytes are, AND gates numbered from
-- `first` on, and no row pair is used.
pub record IsBegunOn (c : Netlist) (first : ℕ) (labels : List ℕ) (e : EvaluatorWith) : Type 0 where
  pub circuit : e.circuit ≡ c
  pub first_is : e.evaluator.first ≡ first
  pub inputs : List ℕ
  pub inputs_are : AreLabels labels inputs
  pub begun : IsEvaluatedSoFar c inputs [] e.evaluator

-- The fault of beginning it: other labels than one for each input wire, then an AND number that is too large. Memory
-- may be missing instead.
abbrev pub HasBeginFault : Netlist → ℕ → List ℕ → KeptFault → Type 0
HasBeginFault c first labels WrongSize = length labels ≢ 16 * input_wires c
HasBeginFault c first labels BadArgument =
    (length labels ≡ 16 * input_wires c) × (¬ (first + and_count c ≤ 2 ^ 62))
HasBeginFault c first labels (Evaluation fault) = fault ≡ eval.Memory
HasBeginFault c first labels Memory = Unit {0}
HasBeginFault c first labels _ = ⊥

-- All row pairs are used.
abbrev pub IsUsed : EvaluatorWith → Type 0
IsUsed e = e.evaluator.used ≡ and_count e.circuit

-- The evaluator uses the row pairs that these bytes are. As many were left.
pub record UsesRows (old new : EvaluatorWith) (bytes : List ℕ) : Type 0 where
  pub circuit : new.circuit ≡ old.circuit
  pub first : new.evaluator.first ≡ old.evaluator.first
  pub piece : List RowPair
  pub piece_is : AreRows bytes piece
  pub evaluated : EvaluatesPiece old.circuit old.evaluator piece new.evaluator
  pub used : new.evaluator.used ≡ old.evaluator.used + length piece
  pub left : new.evaluator.used ≤ and_count new.circuit

-- It uses the whole row pairs in these bytes, which are `taken` bytes at the front.
pub record UsesWhole (old new : EvaluatorWith) (bytes : List ℕ) (taken : ℕ) : Type 0 where
  pub whole : taken ≡ 32 * (length bytes / 32)
  pub uses : UsesRows old new (take taken bytes)

-- The fault of bytes that come: they have more row pairs than are left.
abbrev pub HasFeedFault : EvaluatorWith → ℕ → KeptFault → Type 0
HasFeedFault e size fault =
    (fault ≡ WrongSize) × (and_count e.circuit < e.evaluator.used + size / 32)

-- All row pairs are used, and the buffer begins with the active labels of the output wires.
pub record AreFoundLabels (e : EvaluatorWith) (old new : List ℕ) : Type 0 where
  pub whole : IsUsed e
  pub outputs : List ℕ
  pub found : (inputs : List ℕ) (rows : List RowPair)
      → IsEvaluatedSoFar e.circuit inputs rows e.evaluator
      → AreOutputLabels e.evaluator.first e.circuit rows inputs outputs
  pub buffer : IsFileAt (flat_map bytes_of_label outputs) old new

-- The fault of these labels: row pairs are left, else the buffer has too little room.
abbrev pub HasFoundFault : EvaluatorWith → ℕ → KeptFault → Type 0
HasFoundFault e room Unfinished = ¬ IsUsed e
HasFoundFault e room fault = IsUsed e × HasRoomFault (16 * output_wires e.circuit) room fault
