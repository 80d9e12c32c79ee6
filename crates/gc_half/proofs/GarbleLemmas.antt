-- Garbling in file order: the table of zero labels and the row pairs, gate after gate.
use Rattle.gc_half.proofs.Names.{◌≡◌, ℕ, input_label_of, input_zero, add-one, if◌then◌else◌, ◌==◌, ◌+◌, ◌-◌, ◌<◌, ◌≤◌, ◌++◌, inl, ⊎_elim, List, [], length, map, set, get_or-set_same, get_or-set_other, replicate, slice_get, slice_index, Some, take, refl, sym, ◌∙◌, arith, nat_tests, slice_get_within, Gate, Netlist, input_wires, output_wires, IsLawful, IsSetBy, IsSetBefore, EachRead, and_number, put, EachRead-map, after-keeps, solution_solves, RowPair, zero_of, range_with_len, cases_lt, get_or_past, take_all, values_after, read-table, length-table, table_padded, IsSetBefore-below, IsGarbledFrom, AreGarbled, label_of, hash, numbered_from, IsOneGateMore, common_steps}
use Rattle.gc_half.proofs.AndNumbers.{and_number-le}
use Rattle.gc_half.proofs.OneGateLemmas.{first_read-local, second_read-local}
use Rattle.gc_half.proofs.GarblingLemmas.{zero_local, IsGarbling-same, rows-garbling}
use Rattle.gc_half.proofs.RowLemmas.{rows_after-start, rows_after-next, length-rows_after}
use Rattle.gc_half.proofs.SetWires.{last_or_before, not_set_before}
use Rattle.std.proofs.lemmas.List.{get_or-replicate}

-- A label that is set in a table is put over what the wires have.
pub set-put : (labels : List ℕ) (values : ℕ → ℕ) (s x y : ℕ) → s < length labels
    → ((w : ℕ) → slice_index labels w ≡ values w) → x ≡ y → (w : ℕ)
    → slice_index (set labels s x) w ≡ put values s y w
set-put labels values s x y within same is w =
    grind (arith, nat_tests, get_or-set_same labels s x 0, get_or-set_other labels s w x 0, same w)

-- The hash may be any.
module _ (h : ℕ → ℕ → ℕ) (r : ℕ) (c : Netlist) (given : List ℕ) where
  -- There are as many row pairs as AND gates among the gates,
  pub count_rows : (n : ℕ) (labels : List ℕ) (rows : List RowPair)
      → AreGarbled h r c given n labels rows
      → length rows ≡ and_number c n
  count_rows n labels rows are = rw are.row_pairs (length-rows_after h r c (label_of h r c given) n)

  -- and no more than gates.
  pub few_rows : (n : ℕ) (labels : List ℕ) (rows : List RowPair)
      → AreGarbled h r c given n labels rows
      → length rows ≤ n
  few_rows n labels rows are = omega (arith, count_rows n labels rows are, and_number-le c n)

  -- At the start the labels are the given ones: those of the input wires, at least.
  pub garbled-start : input_wires c ≤ length given → length given ≤ c.wires
      → AreGarbled h r c given 0 given []
  unfolding values_after
  garbled-start inputs few =
      record {
        few = few;
        there = λ w set. grind (arith, inputs);
        right = λ w. refl;
        row_pairs = sym (rows_after-start h r c (label_of h r c given));
      }

  -- One more gate.
  pub garbled-next : IsLawful c → (i : ℕ) (g : Gate) → slice_get c.gates i ≡ Some g
      → (labels new : List ℕ) (rows new_rows : List RowPair)
      → AreGarbled h r c given i labels rows
      → IsOneGateMore h r c.wires g labels rows new new_rows
      → AreGarbled h r c given (i + 1) new new_rows
  unfolding values_after label_of
  garbled-next lawful i g at labels new rows new_rows are more =
      record {
        few = more.few;
        there = λ w before. ⊎_elim (λ earlier. omega (arith, are.there w earlier))
            (λ (by : IsSetBy c w i). let s : g.set ≡ w = cc (by.at, by.wire) in omega arith)
            (last_or_before c w i (rw add-one at before));
        right = λ w. rw (more.label w, add-one, at) (λ t. if w == g.set
            then zero_of h r (λ v. are.right v t) (number t) g.operation
            else are.right w t);
        row_pairs = rw (
          more.row_pairs,
          number,
          are.row_pairs,
          first_read-local _ _ g.operation same,
          second_read-local _ _ g.operation same,
          add-one,
          rows_after-next h r c (label_of h r c given) i g at,
        ) refl;
      }
    where
      number : length rows ≡ and_number c i
      number = rw are.row_pairs (length-rows_after h _ c _ i)

      same : EachRead (λ w. slice_index labels w ≡ (label_of h r c given) w) g.operation
      same = EachRead-map (IsSetBefore c i) _ g.operation (λ w set. are.right w
          ∙ sym (after-keeps _ (zero_local h r c) c lawful _ i _ w
          (omega (arith, slice_get_within c.gates i g at)) set)) (lawful.reads i g at)

-- After the last gate a table of all wires and the row pairs are the garbling.
pub garbled-whole : (first r : ℕ) (c : Netlist) (given : List ℕ) → IsLawful c
    → ((w : ℕ) → input_wires c ≤ w → slice_index given w ≡ 0)
    → (labels : List ℕ) (rows : List RowPair) → length labels ≡ c.wires
    → AreGarbled (numbered_from first hash) r c given (length c.gates) labels rows
    → IsGarbledFrom r (slice_index given) first c
    (record { zero_labels = labels; rows = rows; outputs = output_wires c })
unfolding label_of
garbled-whole first r c given lawful others labels rows long are =
    let h = numbered_from first hash in
    record {
      garbling = rw are.row_pairs (IsGarbling-same h r c lawful _ _ _ _ (λ w set. sym (are.right w))
          (rows-garbling h r c lawful _ _ (solution_solves _ (zero_local h r c) c lawful _)));
      wires = long;
      not_set = λ w below unset.
          are.right w ∙ not_set_before _ c (slice_index given) w (length c.gates) unset
          ∙ ⊎_elim (λ input. absurd (unset (inl input))) (others w) (cases_lt w (input_wires c));
      outputs = refl;
    }

-- The same of a table that is lengthened by zeros.
pub garbled-end : (first r : ℕ) (c : Netlist) (given : List ℕ) → IsLawful c
    → length given ≡ input_wires c → (labels : List ℕ) (rows : List RowPair)
    → AreGarbled (numbered_from first hash) r c given (length c.gates) labels rows
    → IsGarbledFrom r (slice_index given) first c (record {
      zero_labels = take c.wires labels ++ replicate (c.wires - length labels) 0;
      rows = rows;
      outputs = output_wires c;
    })
garbled-end first r c given lawful long labels rows are =
    let few = are.few in
    let table : List ℕ = take c.wires labels ++ replicate (c.wires - length labels) 0 in
    let many : length table ≡ c.wires = grind (arith, common_steps) in
    let same : (w : ℕ) → slice_index table w ≡ slice_index labels w =
    λ w. grind (arith, common_steps, take_all, get_or_past, get_or-replicate) in
    garbled-whole first r c given lawful
    (λ w past. get_or_past given w 0 (omega (arith, long, past))) table rows many
    (record {
      few = omega (arith, many);
      there = λ w set. omega (arith, many, IsSetBefore-below c lawful (length c.gates) w set);
      right = λ w. same w ∙ are.right w;
      row_pairs = are.row_pairs;
    })

-- The zero labels of the input wires under a seed, lengthened by zeros.
pub inputs-padded : (c : Netlist) → IsLawful c → (seed labels table : List ℕ) (count wires : ℕ)
    → labels ≡ map (input_label_of seed) (range_with_len 0 (input_wires c))
    → count ≡ length labels → wires ≡ c.wires
    → table ≡ take wires labels ++ replicate (wires - count) 0
    → table ≡ map (input_zero c seed) (range_with_len 0 c.wires)
inputs-padded c lawful seed labels table count wires labels_are count_is wires_is made =
    let long = length-table (input_label_of seed) (input_wires c) labels labels_are in
    let few : length labels ≤ c.wires = omega (arith, lawful.inputs_fit) in
    let same : (w : ℕ) → slice_index labels w ≡ input_zero c seed w =
    λ w. grind (arith, nat_tests, get_or_past, read-table) in
    rw (made, wires_is, count_is, take_all c.wires labels few)
    (simp same at (table_padded labels c.wires 0 few))
