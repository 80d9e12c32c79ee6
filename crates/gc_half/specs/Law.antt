-- The laws of garbled circuits. The hash is any function of a label and a tweak.
use Rattle.std.specs.Prelude.{◌≡◌, ℕ, Bool, IsTrue, List}
use Rattle.gc_netlist.specs.Circuit.{Netlist, IsSet, IsLawful}
use Rattle.gc_netlist.specs.Solution.{on_outputs}
use Rattle.gc_circuit.specs.Meaning.{IsAssignment}
use Rattle.gc_label.specs.Label.{colour}
use Rattle.gc_half.specs.declared.garbling.RowPair.{RowPair}
use Rattle.gc_half.specs.Garbling.{IsGarbling, GarblingParts, IsGarbled}
use Rattle.gc_half.specs.Canonical.{garbling_of}
use Rattle.gc_half.specs.Evaluation.{IsEvaluation, encode, decode, decode_bits}

-- Each wire that is set has the active label that stands for its bit, and the outputs decode to the bits of the output
-- wires.
pub record Decodes (c : Netlist) (offset : ℕ) (zero_label : ℕ → ℕ) (bits : ℕ → Bool)
    (active : ℕ → ℕ) : Type 0 where
  pub labels : (w : ℕ) → IsSet c w → active w ≡ encode offset (zero_label w) (bits w)
  pub outputs : decode (decode_bits c zero_label) (on_outputs c active) ≡ on_outputs c bits

-- The law of half gates. Take any hash, offset of colour 1, lawful circuit, zero labels of the input wires and input
-- bits; a garbling, an assignment for the bits, and an evaluation of the garbling's rows on the labels that stand for
-- the bits. Then the evaluation decodes to the assignment.
abbrev pub HalfGatesLaw : Type 0
HalfGatesLaw =
    (hash : ℕ → ℕ → ℕ) (offset : ℕ) → IsTrue (colour offset) → (c : Netlist) → IsLawful c
    → (given zero_label : ℕ → ℕ)
    (rows : List RowPair) → IsGarbling hash offset c given zero_label rows
    → (input_bits bits : ℕ → Bool)
    → IsAssignment c input_bits bits → (active : ℕ → ℕ)
    → IsEvaluation hash c rows (λ w. encode offset (given w) (input_bits w)) active
    → Decodes c offset zero_label bits active

-- There is a garbling, and any two have the same rows and agree on the wires that are set.
pub record HasOneGarbling (hash : ℕ → ℕ → ℕ) (offset : ℕ) (c : Netlist) (given : ℕ → ℕ)
    : Type 0 where
  pub one : (zero_label : ℕ → ℕ)
      × ((rows : List RowPair) × IsGarbling hash offset c given zero_label rows)
  pub same_labels : (zero_label zero_label' : ℕ → ℕ) (rows rows' : List RowPair)
      → IsGarbling hash offset c given zero_label rows
      → IsGarbling hash offset c given zero_label' rows' → (w : ℕ) → IsSet c w
      → zero_label w ≡ zero_label' w
  pub same_rows : (zero_label zero_label' : ℕ → ℕ) (rows rows' : List RowPair)
      → IsGarbling hash offset c given zero_label rows
      → IsGarbling hash offset c given zero_label' rows' → rows ≡ rows'

-- There is an evaluation of any rows, and any two agree on the wires that are set.
pub record HasOneEvaluation (hash : ℕ → ℕ → ℕ) (c : Netlist) (rows : List RowPair) (given : ℕ → ℕ)
    : Type 0 where
  pub one : (active : ℕ → ℕ) × IsEvaluation hash c rows given active
  pub same_labels : (active active' : ℕ → ℕ) → IsEvaluation hash c rows given active
      → IsEvaluation hash c rows given active' → (w : ℕ) → IsSet c w → active w ≡ active' w

-- What is computed (`garbling_of`) is the garbling of the circuit under the seed, and there is no other.
pub record HasOneGarbled (c : Netlist) (seed : List ℕ) : Type 0 where
  pub computed : IsGarbled c seed (garbling_of c seed)
  pub no_other : (g : GarblingParts) → IsGarbled c seed g → g ≡ garbling_of c seed
