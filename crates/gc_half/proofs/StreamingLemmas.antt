-- A garbler and an evaluator from piece to piece.
use Rattle.gc_half.proofs.Names.{◌≡◌, ℕ, ◌+◌, ◌-◌, ◌≤◌, ◌^◌, ◌++◌, [], List, length, map, slice_index, refl, sym, ap, ◌∙◌, arith, nat_tests, Netlist, IsLawful, and_number, and_count, input_wires, output_wires, input_label_of, input_zero, RowPair, min, range_with_len, length-append, append-nil, get_or_past, values_after, read-table, length-table, IsSetBefore-below, IsGarbledFrom, hash, numbered_from, ZeroTableParts, rows_made, IsPieceAfter, GarblesOn, EndsPiece, StreamingGarblerParts, IsGarbledSoFar, IsEvaluatedSoFar, input_labels, IsGarbled, offset_of, GarblingParts}
use Rattle.gc_half.proofs.AndNumbers.{and_number-le, and_number-end}
use Rattle.gc_half.proofs.GarbleLemmas.{count_rows, garbled-start, garbled-whole}
use Rattle.gc_half.proofs.PieceLemmas.{and_number-few, piece-count}
use Rattle.gc_half.proofs.RowLemmas.{rows_after-start}
use Rattle.gc_half.proofs.NumberedLemmas.{IsGarbledFrom-given, garbled-under-seed}
use Rattle.gc_half.proofs.CircuitLaw.{active-start}

-- There are no more AND gates than gates.
pub ands-few : (c : Netlist) → and_count c ≤ length c.gates
ands-few c = omega (arith, and_number-le c (length c.gates), and_number-end c)

module _ (c : Netlist) (lawful : IsLawful c) (given labels : List ℕ)
    (fits : length given ≡ input_wires c)
    (are : labels ≡ map (slice_index given) (range_with_len 0 c.wires)) where
  -- A label of each wire, from those of the input wires.
  pub padded : (w : ℕ) → slice_index labels w ≡ slice_index given w
  padded w =
      let long = length-table _ c.wires labels are in
      grind (arith, get_or_past, read-table, lawful.inputs_fit)

  -- The other wires have 0.
  pub padded-others : (w : ℕ) → input_wires c ≤ w → slice_index labels w ≡ 0
  padded-others w past = padded w ∙ get_or_past given w 0 (omega (arith, fits, past))

  -- A garbling from this table is one from those of the input wires.
  pub padded-garbled : (r first : ℕ) (g : GarblingParts)
      → IsGarbledFrom r (slice_index labels) first c g
      → IsGarbledFrom r (slice_index given) first c g
  padded-garbled r first g = IsGarbledFrom-given r _ _ first c g (λ w input. padded w)

  -- No gate is garbled yet.
  pub garbler-begun : (r first : ℕ) → first + and_count c ≤ 2 ^ 62
      → IsGarbledSoFar c given [] (record {
        offset = r;
        first = first;
        labels = labels;
        gates = 0;
        made = 0;
      })
  unfolding values_after
  garbler-begun r first numbers =
      let long = length-table _ c.wires labels are in
      record {
        inputs = fits;
        numbers = numbers;
        wires = long;
        gates = omega arith;
        made = refl;
        garbled = record {
          few = omega (arith, long);
          there = λ w set. omega (arith, long, IsSetBefore-below c lawful 0 w set);
          right = padded;
          row_pairs = sym (rows_after-start _ r c _);
        };
      }

-- A whole circuit is one piece.
module _ {c : Netlist} (lawful : IsLawful c) {t : ZeroTableParts}
    (wires : length t.labels ≡ c.wires) (none : t.made ≡ 0) (no_other : t.waiting ≡ [])
    (places : List RowPair) where
  pub whole-begun : IsPieceAfter t.offset t.first c t.labels [] 0 t (rows_made t places)
  whole-begun = record {
    offset = refl;
    numbered = omega arith;
    wires = wires;
    counted = rw (none, no_other) refl;
    garbled = rw (none, no_other) (garbled-start (numbered_from t.first hash) t.offset c t.labels
        (omega (arith, wires, lawful.inputs_fit)) (omega (arith, wires)));
    waiting = λ w unset. rw no_other tt;
  }

  module _ {new : ZeroTableParts} {piece : List RowPair} {to : ℕ}
      (garbles : GarblesOn c 0 to t (rows_made t places) new piece)
      (many : length places ≡ and_count c) (ends : EndsPiece c 0 (length places) to) where
    whole-after : IsPieceAfter t.offset t.first c t.labels [] to new piece
    whole-after = garbles t.offset t.first t.labels [] whole-begun

    -- There is a row pair for each AND gate,
    pub whole-made : new.made + length new.waiting ≡ and_count c
    whole-made =
        let count = piece-count t.offset t.first c t.labels [] to new piece whole-after in
        omega (arith, whole-after.counted)

    -- and the table and the row pairs are the garbling.
    pub whole-garbled : ((w : ℕ) → input_wires c ≤ w → slice_index t.labels w ≡ 0)
        → IsGarbledFrom t.offset (slice_index t.labels) t.first c
        (record { zero_labels = new.labels; rows = piece; outputs = output_wires c })
    whole-garbled others =
        garbled-whole t.first t.offset c t.labels lawful others new.labels piece whole-after.wires
        (rw (ends.whole (omega (arith, ends.number, many))) at whole-after.garbled)

-- The zero labels of the wires under a seed.
module _ (c : Netlist) (lawful : IsLawful c) (seed labels : List ℕ)
    (are : labels ≡ map (input_zero c seed) (range_with_len 0 c.wires)) where
  long : length (input_labels c seed) ≡ input_wires c
  long = length-table (input_label_of seed) (input_wires c) (input_labels c seed) refl

  -- They are those of the input wires, wire by wire.
  input_labels-at : (w : ℕ) → input_zero c seed w ≡ slice_index (input_labels c seed) w
  input_labels-at w = grind (arith, nat_tests, get_or_past, read-table, long)

  seed-padded : labels ≡ map (slice_index (input_labels c seed)) (range_with_len 0 c.wires)
  seed-padded =
      are ∙ ap (λ f. map f (range_with_len 0 c.wires)) (λ t w. input_labels-at w t)

  pub seed-others : (w : ℕ) → input_wires c ≤ w → slice_index labels w ≡ 0
  seed-others = padded-others c lawful (input_labels c seed) labels long seed-padded

  pub seed-begun : (r : ℕ) → IsGarbledSoFar c (input_labels c seed) [] (record {
    offset = r;
    first = 0;
    labels = labels;
    gates = 0;
    made = 0;
  })
  seed-begun r =
      garbler-begun c lawful (input_labels c seed) labels long seed-padded r 0
      (omega (arith, ands-few c, lawful.few_gates))

  -- The garbling from them is that under the seed.
  pub seed-garbled : (r : ℕ) → r ≡ offset_of seed → (g : GarblingParts)
      → IsGarbledFrom r (slice_index labels) 0 c g → IsGarbled c seed g
  seed-garbled r offset_is g is =
      garbled-under-seed c seed (input_labels c seed) r g refl offset_is
      (padded-garbled c lawful (input_labels c seed) labels long seed-padded r 0 g is)

module _ (c : Netlist) (given : List ℕ) (rows : List RowPair) (g : StreamingGarblerParts)
    (is : IsGarbledSoFar c given rows g) where
  pub garbler-count : g.made ≡ and_number c g.gates
  garbler-count =
      is.made
      ∙ count_rows (numbered_from g.first hash) g.offset c given g.gates g.labels rows is.garbled

  pub garbler-few : g.made ≤ and_count c
  garbler-few = omega (arith, garbler-count, and_number-few c g.gates)

  -- The number of the next AND gate is one.
  pub garbler-number : g.first + g.made ≤ 2 ^ 62
  garbler-number = omega (arith, is.numbers, garbler-few)

-- A garbler makes its next piece.
module _ {c : Netlist} {given : List ℕ} {rows : List RowPair} {g : StreamingGarblerParts}
    (is : IsGarbledSoFar c given rows g) {number : ℕ} {begun : ZeroTableParts}
    (begins : begun ≡ record {
      offset = g.offset;
      first = number;
      labels = g.labels;
      made = 0;
      waiting = [];
    })
    (numbered : number ≡ g.first + g.made) (places : List RowPair)
  where
    -- None of its row pairs is made.
    pub piece-begun : IsPieceAfter g.offset g.first c given rows g.gates begun
        (rows_made begun places)
    piece-begun = rw begins (record {
      offset = refl;
      numbered = numbered ∙ ap (λ n. g.first + n) is.made;
      wires = is.wires;
      counted = refl;
      garbled = rw append-nil is.garbled;
      waiting = λ w unset. tt;
    })

    module _ {t : ZeroTableParts} {piece : List RowPair} {to count : ℕ}
        (garbles : GarblesOn c g.gates to begun (rows_made begun places) t piece)
        (ends : EndsPiece c g.gates count to) where
      after : IsPieceAfter g.offset g.first c given rows to t piece
      after = garbles g.offset g.first given rows piece-begun

      count-after : length rows + length piece ≡ and_number c to
      count-after = piece-count g.offset g.first c given rows to t piece after

      -- The piece has a row pair for each place, or for each AND gate that was left.
      pub piece-made : t.made + length t.waiting ≡ min count (and_count c - g.made)
      piece-made =
          let before = garbler-count c given rows g is in
          omega (arith, after.counted, count-after, and_number-few c g.gates)

      pub piece-whole : (made : ℕ) → made ≡ t.made + length t.waiting
          → g.made + made ≡ and_count c → to ≡ length c.gates
      piece-whole made made_is all = ends.whole (omega (arith, after.counted, count-after))

      -- The garbler after the piece.
      pub garbler-after : (new_labels : List ℕ) (made : ℕ) → new_labels ≡ t.labels
          → made ≡ t.made + length t.waiting
          → IsGarbledSoFar c given (rows ++ piece) (record {
            offset = g.offset;
            first = g.first;
            labels = new_labels;
            gates = to;
            made = g.made + made;
          })
      garbler-after new_labels made labels_are made_is = record {
        inputs = is.inputs;
        numbers = is.numbers;
        wires = ap length labels_are ∙ after.wires;
        gates = ends.gates;
        made = omega (arith, after.counted, length-append rows piece);
        garbled = rw labels_are after.garbled;
      }

-- No gate is evaluated yet.
pub evaluator-begun : (c : Netlist) (inputs labels : List ℕ) → length inputs ≡ input_wires c
    → labels ≡ map (slice_index inputs) (range_with_len 0 c.wires)
    → (first : ℕ) → first + and_count c ≤ 2 ^ 62
    → IsEvaluatedSoFar c inputs []
    (record { first = first; labels = labels; gates = 0; used = 0 })
evaluator-begun c inputs labels fits are first numbers = record {
  fits = fits;
  numbers = numbers;
  gates = omega arith;
  used = refl;
  reached = refl;
  labels = active-start first c [] inputs labels are;
}
