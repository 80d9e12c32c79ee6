-- A circuit in pieces, in file order: its row pairs leave while it is garbled, and come while it is evaluated.
use Rattle.std.specs.Prelude.{◌≡◌, ℕ, ◌<◌, ◌+◌, ◌^◌, ◌≤◌, ◌++◌, List, length, map, slice_get, slice_index, take}
use Rattle.std.specs.List.{range_with_len}
use Rattle.gc_netlist.specs.Circuit.{Netlist, IsLawful, IsSetBefore, and_count, and_number, input_wires}
use Rattle.gc_netlist.specs.Solution.{values_after}
use Rattle.gc_label.specs.Seed.{input_label_of}
use Rattle.gc_half.specs.declared.garbling.RowPair.{RowPair}
use Rattle.gc_half.specs.Hash.{hash, numbered_from}
use Rattle.gc_half.specs.FirstGates.{AreGarbled}
use Rattle.gc_half.specs.Garbling.{GarblingParts, IsGarbledFrom}
use Rattle.gc_half.specs.Evaluation.{active_rule, IsEvaluation}

-- The zero labels of the input wires under a seed, in order.
abbrev pub input_labels : Netlist → List ℕ → List ℕ
input_labels c seed = map (input_label_of seed) (range_with_len 0 (input_wires c))

-- The parts of a `StreamingGarbler`: the offset, the number of the first AND gate, the zero labels so far, how many
-- gates are garbled, and how many of these are AND gates.
pub record StreamingGarblerParts : Type 0 where
  pub offset : ℕ
  pub first : ℕ
  pub labels : List ℕ
  pub gates : ℕ
  pub made : ℕ

-- The first gates of the circuit are garbled from these zero labels of the input wires, and these are their row pairs.
pub record IsGarbledSoFar (c : Netlist) (given : List ℕ) (rows : List RowPair)
    (g : StreamingGarblerParts) : Type 0 where
  pub inputs : length given ≡ input_wires c
  pub numbers : g.first + and_count c ≤ 2 ^ 62
  pub wires : length g.labels ≡ c.wires
  pub gates : g.gates ≤ length c.gates
  pub made : g.made ≡ length rows
  pub garbled : AreGarbled (numbered_from g.first hash) g.offset c given g.gates g.labels rows

-- A garbler of this circuit, begun from some zero labels of the input wires, has made some row pairs; all gates are
-- garbled once the last row pair is made.
pub record IsGarblerOf (c : Netlist) (g : StreamingGarblerParts) : Type 0 where
  pub given : List ℕ
  pub rows : List RowPair
  pub so_far : IsGarbledSoFar c given rows g
  pub whole : g.made ≡ and_count c → g.gates ≡ length c.gates

-- The places from the n-th on have what they had.
abbrev pub KeepsFrom : ℕ → List RowPair → List RowPair → Type 0
KeepsFrom n old new = (i : ℕ) → n ≤ i → slice_get new i ≡ slice_get old i

-- The garbler makes this piece next, whatever the zero labels of the input wires and the row pairs before are.
abbrev pub GarblesPiece : Netlist → StreamingGarblerParts → List RowPair → StreamingGarblerParts
    → Type 0
GarblesPiece c old piece new =
    (given : List ℕ) (rows : List RowPair) → IsGarbledSoFar c given rows old
    → IsGarbledSoFar c given (rows ++ piece) new

-- The parts of a `StreamingEvaluator`: the number of the first AND gate, the active labels so far, how many gates are
-- evaluated, and how many row pairs were used.
pub record StreamingEvaluatorParts : Type 0 where
  pub first : ℕ
  pub labels : List ℕ
  pub gates : ℕ
  pub used : ℕ

-- The active labels of all wires after the first n gates of an evaluation of these rows on these labels of the input
-- wires.
abbrev pub active_after : ℕ → Netlist → List RowPair → List ℕ → ℕ → List ℕ
active_after first c rows inputs n =
    map (values_after (active_rule (numbered_from first hash) c rows) c (slice_index inputs) n)
    (range_with_len 0 c.wires)

-- The first gates of the circuit are evaluated on these active labels of the input wires with these row pairs, one for
-- each AND gate among them.
pub record IsEvaluatedSoFar (c : Netlist) (inputs : List ℕ) (rows : List RowPair)
    (e : StreamingEvaluatorParts) : Type 0 where
  pub fits : length inputs ≡ input_wires c
  pub numbers : e.first + and_count c ≤ 2 ^ 62
  pub gates : e.gates ≤ length c.gates
  pub used : e.used ≡ length rows
  pub reached : and_number c e.gates ≡ length rows
  pub labels : e.labels ≡ active_after e.first c rows inputs e.gates

-- An evaluator of this circuit, begun on some active labels of the input wires, has used some row pairs; all gates are
-- evaluated once the last row pair is used.
pub record IsEvaluatorOf (c : Netlist) (e : StreamingEvaluatorParts) : Type 0 where
  pub inputs : List ℕ
  pub rows : List RowPair
  pub so_far : IsEvaluatedSoFar c inputs rows e
  pub whole : e.used ≡ and_count c → e.gates ≡ length c.gates

-- The evaluator uses this piece next, whatever the active labels of the input wires and the row pairs before are.
abbrev pub EvaluatesPiece : Netlist → StreamingEvaluatorParts → List RowPair
    → StreamingEvaluatorParts → Type 0
EvaluatesPiece c old piece new =
    (inputs : List ℕ) (rows : List RowPair) → IsEvaluatedSoFar c inputs rows old
    → IsEvaluatedSoFar c inputs (rows ++ piece) new

-- What is garbled so far is part of this garbling: the row pairs are its first ones, and all of them once there is one
-- for each AND gate; and the wires that are set have its zero labels.
pub record IsPartOf (c : Netlist) (rows : List RowPair) (g : StreamingGarblerParts)
    (all : GarblingParts) : Type 0 where
  pub first_rows : rows ≡ take g.made all.rows
  pub all_rows : g.made ≡ and_count c → rows ≡ all.rows
  pub labels : (w : ℕ) → IsSetBefore c g.gates w
      → slice_index g.labels w ≡ slice_index all.zero_labels w

-- The law of pieces that leave: what a garbler has made is part of the garbling from the same offset, zero labels and
-- first number. So the pieces, however the circuit is cut, are together the row pairs of the garbling.
abbrev pub GarbledPiecesLaw : Type 0
GarbledPiecesLaw =
    (c : Netlist) → IsLawful c → (given : List ℕ) (rows : List RowPair) (g : StreamingGarblerParts)
    → IsGarbledSoFar c given rows g → (all : GarblingParts)
    → IsGarbledFrom g.offset (slice_index given) g.first c all → IsPartOf c rows g all

-- The law of input labels: however far it is, a garbler has the given zero labels of the input wires.
abbrev pub InputLabelsLaw : Type 0
InputLabelsLaw =
    (c : Netlist) → IsLawful c → (given : List ℕ) (rows : List RowPair) (g : StreamingGarblerParts)
    → IsGarbledSoFar c given rows g
    → (w : ℕ) → w < input_wires c → slice_index g.labels w ≡ slice_index given w

-- The law of pieces that come: the active labels of the wires that are set so far are those of any evaluation of all
-- row pairs, whatever the rest of them is.
abbrev pub EvaluatedPiecesLaw : Type 0
EvaluatedPiecesLaw =
    (c : Netlist) → IsLawful c → (inputs : List ℕ) (rows : List RowPair)
    (e : StreamingEvaluatorParts) → IsEvaluatedSoFar c inputs rows e
    → (rest : List RowPair) (active : ℕ → ℕ)
    → IsEvaluation (numbered_from e.first hash) c (rows ++ rest) (slice_index inputs) active
    → (w : ℕ) → IsSetBefore c e.gates w → slice_index e.labels w ≡ active w
