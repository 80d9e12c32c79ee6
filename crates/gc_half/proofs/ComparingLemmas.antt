-- Row pairs that are compared with given ones as they are made.
use Rattle.gc_half.proofs.Names.{◌≡◌, ℕ, ◌+◌, ◌<◌, ◌++◌, List, [], ◌∷◌, length, take, drop, get_or, set, slice_get, Option, Some, MatchOption, refl, sym, ◌∙◌, arith, gets, Netlist, IsLawful, input_wires, input_label_of, RowPair, GarblingParts, IsGarbled, common_steps, AreCompared}
use Rattle.std.proofs.lemmas.List.{take_more_set, drop_all, drop_more, drop-drop, drop-set-lt, get_or-drop, length-take-le}
use Rattle.gc_half.specs.declared.garbling.Mismatch.{Mismatch}
use Rattle.gc_half.specs.Comparing.{IsFirstMismatch, IsComparison, HasLabels, IsNextMismatch}
use Rattle.gc_half.proofs.CanonicalLemmas.{garbling_of-IsGarbled, IsGarbled-same}

module _ (given : List RowPair) where
  -- The pair that is made is compared with the next given one. A mismatch stays the first one.
  next_first : (made : List RowPair) (old pair : RowPair) → slice_get given (length made) ≡ Some old
      → (first next : Option Mismatch) → IsNextMismatch first (length made) old pair next
      → MatchOption first (take (length made) given ≡ made) (IsFirstMismatch given made)
      → MatchOption next (take (length made + 1) given ≡ made ++ pair ∷ [])
      (IsFirstMismatch given (made ++ pair ∷ []))
  next_first made old pair there first next is before = search (arith, common_steps, gets)

  -- A pair takes the place of the next given one.
  pub compared-next : (rows : List RowPair) (n : ℕ) (old pair : RowPair)
      (first next : Option Mismatch) → n < length rows → old ≡ get_or rows n old
      → IsNextMismatch first n old pair next
      → AreCompared given n rows first → AreCompared given (n + 1) (set rows n pair) next
  compared-next rows n old pair first next below read is before =
      let long : length (take n rows) ≡ n = length-take-le n rows (omega arith) in
      let left : drop n given ≡ old ∷ drop (n + 1) rows =
      rw read (sym before.left ∙ drop_more rows n old below) in
      let there : slice_get given n ≡ Some old =
      grind (arith, gets, get_or-drop n given 0 old, drop_all n given) in
      record {
        left = rw (drop-set-lt (n + 1) rows n pair (omega arith), ← drop-drop 1 n given, left) refl;
        first = rw (take_more_set rows n pair below)
            (rw long at (next_first (take n rows) old pair (rw long there) first next (rw long is)
            (rw long before.first)));
      }

module _ (c : Netlist) (seed : List ℕ) (lawful : IsLawful c) (g : GarblingParts) where
  -- The circuit's garbling has its labels,
  pub garbled-HasLabels : IsGarbled c seed g → HasLabels c seed g
  garbled-HasLabels is = record {
    labels = rw (IsGarbled-same c seed lawful g is);
    fits = record { wires = is.wires; and_gates = is.garbling.row_count; outputs = is.outputs };
  }

  -- what is compared with its rows is compared with the garbling's,
  pub garbled-IsComparison : IsGarbled c seed g → (given : List RowPair) (first : Option Mismatch)
      → MatchOption first (given ≡ g.rows) (IsFirstMismatch given g.rows)
      → IsComparison c seed given first
  garbled-IsComparison is given first found = rw (IsGarbled-same c seed lawful g is) at found

  -- and the labels of the input wires are the seed's.
  pub HasLabels-input : HasLabels c seed g → (w : ℕ) → w < input_wires c
      → get_or g.zero_labels w 0 ≡ input_label_of seed w
  HasLabels-input has w input =
      rw has.labels ((garbling_of-IsGarbled c seed lawful).garbling.labels.inputs w input)
