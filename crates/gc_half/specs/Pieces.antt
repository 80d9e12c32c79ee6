-- One piece of a circuit, gate after gate, in the tables of garbling and of evaluating.
use Rattle.std.specs.Prelude.{◌≡◌, ℕ, ◌+◌, ◌≤◌, ◌++◌, List, length, min}
use Rattle.gc_netlist.specs.Circuit.{Netlist, IsSetBefore, and_count, and_number}
use Rattle.gc_half.specs.declared.garbling.RowPair.{RowPair}
use Rattle.gc_half.specs.Hash.{hash, numbered_from}
use Rattle.gc_half.specs.FirstGates.{AreGarbled}
use Rattle.gc_half.specs.Waiting.{ActiveTableParts, ZeroTableParts, NoneSets}
use Rattle.gc_half.specs.Streaming.{StreamingGarblerParts, StreamingEvaluatorParts, IsGarbledSoFar, IsEvaluatedSoFar, active_after}

-- From gate `from` on, a piece of at most `count` AND gates ends before gate `to`: at the next AND gate, or at the end.
pub record EndsPiece (c : Netlist) (from count to : ℕ) : Type 0 where
  pub later : from ≤ to
  pub gates : to ≤ length c.gates
  pub number : and_number c to ≡ min (and_number c from + count) (and_count c)
  pub whole : and_number c to ≡ and_count c → to ≡ length c.gates

-- The first n gates are garbled in this table, with the offset r and AND gates that are numbered from `first` on. The
-- AND gates of the piece have these row pairs, and those before it have the others.
pub record IsPieceAfter (r first : ℕ) (c : Netlist) (given : List ℕ) (before : List RowPair)
    (n : ℕ) (t : ZeroTableParts) (piece : List RowPair) : Type 0 where
  pub offset : t.offset ≡ r
  pub numbered : t.first ≡ first + length before
  pub wires : length t.labels ≡ c.wires
  pub counted : t.made + length t.waiting ≡ length piece
  pub garbled : AreGarbled (numbered_from first hash) r c given n t.labels (before ++ piece)
  pub waiting : (w : ℕ) → ¬ IsSetBefore c n w → NoneSets w t.waiting

-- There are such an offset, first number, zero labels and row pairs before.
abbrev pub IsSomePiece : Netlist → ℕ → ZeroTableParts → List RowPair → Type 0
IsSomePiece c n t piece =
    (r : ℕ) × (first : ℕ) × (given : List ℕ) × (before : List RowPair)
    × IsPieceAfter r first c given before n t piece

-- Whatever these are, the gates from the m-th on are garbled up to the n-th.
abbrev pub GarblesOn : Netlist → ℕ → ℕ → ZeroTableParts → List RowPair → ZeroTableParts
    → List RowPair → Type 0
GarblesOn c m n old old_piece new piece =
    (r first : ℕ) (given : List ℕ) (before : List RowPair)
    → IsPieceAfter r first c given before m old old_piece
    → IsPieceAfter r first c given before n new piece

-- Gate n and those after it can be evaluated in this table: there are the wires, and no gate that waits sets one that
-- is not set yet.
pub record CanEvaluate (c : Netlist) (n : ℕ) (t : ActiveTableParts) : Type 0 where
  pub wires : length t.labels ≡ c.wires
  pub waiting : (w : ℕ) → ¬ IsSetBefore c n w → NoneSets w t.waiting

-- With this piece, whatever came before it, the table of the first m gates becomes that of the first n gates.
pub record EvaluatesOn (c : Netlist) (piece : List RowPair) (m n : ℕ) (old new : ActiveTableParts)
    : Type 0 where
  pub numbered : new.first ≡ old.first
  pub labels : (first : ℕ) (inputs : List ℕ) (before : List RowPair)
      → length before ≡ and_number c m → old.first ≡ first + length before
      → old.labels ≡ active_after first c (before ++ piece) inputs m
      → new.labels ≡ active_after first c (before ++ piece) inputs n

-- The first gates of the circuit are garbled or evaluated, up to any one.
abbrev pub IsBegunGarbler : Netlist → StreamingGarblerParts → Type 0
IsBegunGarbler c g = (given : List ℕ) × (rows : List RowPair) × IsGarbledSoFar c given rows g

abbrev pub IsBegunEvaluator : Netlist → StreamingEvaluatorParts → Type 0
IsBegunEvaluator c e = (inputs : List ℕ) × (rows : List RowPair) × IsEvaluatedSoFar c inputs rows e
