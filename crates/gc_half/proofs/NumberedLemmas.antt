-- Where AND gates are numbered from 0 on, the hash is the hash itself. `rw` does not see it below `numbered_from`,
-- which computes where it is applied: so each notion that is taken at a hash has a lemma of its own.
use Rattle.gc_half.proofs.Names.{◌≡◌, ℕ, ◌+◌, ◌*◌, ◌<◌, List, map, slice_index, offset_of, input_label_of, IsGarbled, sym, ap, subst, ◌∙◌, arith, Netlist, input_wires, RowPair, IsGarbling, range_with_len, read-table, IsEvaluation, GarblingParts, IsGarbledFrom, numbered_from}
use Rattle.gc_half.specs.HalfGate.{and_garbled}

from-number : (n : ℕ) → 2 * 0 + n ≡ n
from-number n = omega arith

from-zero : (h : ℕ → ℕ → ℕ) → numbered_from 0 h ≡ h
from-zero h = λ t label tweak. h label (from-number tweak t)

module _ (h : ℕ → ℕ → ℕ) where
  pub and_garbled-zero : (k r a b : ℕ)
      → and_garbled (numbered_from 0 h) k r a b ≡ and_garbled h k r a b
  and_garbled-zero k r a b = ap (λ f. and_garbled f k r a b) (from-zero h)

  module _ (r : ℕ) (c : Netlist) (given label : ℕ → ℕ) (rows : List RowPair) where
    pub IsGarbling-zero : IsGarbling (numbered_from 0 h) r c given label rows
        → IsGarbling h r c given label rows
    IsGarbling-zero = subst (λ f. IsGarbling f r c given label rows) (from-zero h)

    pub zero-IsGarbling : IsGarbling h r c given label rows
        → IsGarbling (numbered_from 0 h) r c given label rows
    zero-IsGarbling = subst (λ f. IsGarbling f r c given label rows) (sym (from-zero h))

  pub IsEvaluation-zero : (c : Netlist) (rows : List RowPair) (given active : ℕ → ℕ)
      → IsEvaluation (numbered_from 0 h) c rows given active → IsEvaluation h c rows given active
  IsEvaluation-zero c rows given active evaluation =
      subst (λ f. IsEvaluation f c rows given active) (from-zero h) evaluation

-- A garbling looks at the zero labels of the input wires alone.
pub IsGarbledFrom-given : (r : ℕ) (u v : ℕ → ℕ) (first : ℕ) (c : Netlist) (g : GarblingParts)
    → ((w : ℕ) → w < input_wires c → u w ≡ v w) → IsGarbledFrom r u first c g
    → IsGarbledFrom r v first c g
IsGarbledFrom-given r u v first c g same is = record {
  garbling = record {
    labels = record {
      inputs = λ w input. is.garbling.labels.inputs w input ∙ same w input;
      gates = is.garbling.labels.gates;
    };
    and_gates = is.garbling.and_gates;
    row_count = is.garbling.row_count;
  };
  wires = is.wires;
  not_set = is.not_set;
  outputs = is.outputs;
}

-- The garbling with a seed's offset and zero labels, its AND gates numbered from 0 on, is that under the seed.
pub garbled-under-seed : (c : Netlist) (seed labels : List ℕ) (r : ℕ) (g : GarblingParts)
    → labels ≡ map (input_label_of seed) (range_with_len 0 (input_wires c)) → r ≡ offset_of seed
    → IsGarbledFrom r (slice_index labels) 0 c g → IsGarbled c seed g
garbled-under-seed c seed labels r g labels_are offset_is is =
    IsGarbledFrom-given (offset_of seed) _ _ 0 c g
    (λ w input. rw labels_are (read-table (input_label_of seed) (input_wires c) w 0 input))
    (subst (λ o. IsGarbledFrom o (slice_index labels) 0 c g) offset_is is)
