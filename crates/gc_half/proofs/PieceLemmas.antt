-- Garbling and evaluating the gates of a piece: its AND gates are numbered after those before it.
use Rattle.gc_half.proofs.Names.{◌≡◌, ℕ, zero, suc, ◌+◌, ◌-◌, ◌*◌, ◌<◌, ◌≤◌, ◌++◌, inl, inr, true, List, cond, length, map, set, slice_get, slice_index, Option, Some, refl, ap, ◌∙◌, arith, take_all, slice_get_cases, slice_get_within, Operation, Gate, Netlist, IsLawful, is_and, and_number, and_count, RowPair, zero_of, gate_rows, gate_zero, with_row_pair, first_read, second_read, range_with_len, length-append, length-set, common_steps, get_or_append_left, get_or-append_right, values_after, active_of, active_rule, row_at, AreGarbled, hash, numbered_from, ZeroTableParts, NoneSets, IsPieceAfter, EndsPiece, get_or_from_slice_get, add-one, if◌then◌else◌, ◌==◌}
use Rattle.std.proofs.lemmas.List.Sums.{sum_by-take-le, sum_by_more}
use Rattle.gc_half.proofs.AndNumbers.{and_number-and, and_number-below}
use Rattle.gc_half.proofs.GarbleLemmas.{garbled-next, count_rows, set-put}
use Rattle.gc_half.proofs.SetWires.{not_set_yet}

module _ (c : Netlist) where
  -- There are no more AND gates before a gate than there are.
  pub and_number-few : (i : ℕ) → and_number c i ≤ and_count c
  and_number-few i =
      omega (arith, sum_by-take-le (λ (x : Gate). cond (is_and x.operation) 1 0) c.gates i)

  -- One more gate is counted where it is an AND gate.
  pub and_number-next : (i : ℕ) (g : Gate) → slice_get c.gates i ≡ Some g
      → and_number c (i + 1) ≡ and_number c i + cond (is_and g.operation) 1 0
  and_number-next i g at =
      rw (get_or_from_slice_get c.gates i g g at) at (sum_by_more
      (λ (x : Gate). cond (is_and x.operation) 1 0) c.gates i g (slice_get_within c.gates i g at))

  -- A piece ends before an AND gate for which none is left.
  pub ends-before : {from count left i : ℕ} → left + and_number c i ≡ count + and_number c from
      → {g : Gate} → slice_get c.gates i ≡ Some g → is_and g.operation ≡ true → left ≡ 0
      → from ≤ i → EndsPiece c from count i
  ends-before counted at and none later =
      let below = and_number-below c _ _ at and in
      record {
        later = later;
        gates = omega (arith, slice_get_within c.gates _ _ at);
        number = omega (arith, below);
        whole = λ all. absurd (omega (arith, below));
      }

  and_number-suc : (i : ℕ) → and_number c i ≤ and_number c (suc i)
  and_number-suc i = elim (slice_get_cases c.gates i).1 [
    | inl (g, _, at, _) ↦ omega (arith, rw add-one at (and_number-next i g at))
    | inr (past, none) ↦
        rw (take_all i c.gates past, take_all (suc i) c.gates (omega arith)) (omega arith)
  ]

first-tweak : (n m k : ℕ) → 2 * (n + m) + 2 * k ≡ 2 * n + 2 * (m + k)
first-tweak n m k = omega arith

second-tweak : (n m k : ℕ) → 2 * (n + m) + (2 * k + 1) ≡ 2 * n + (2 * (m + k) + 1)
second-tweak n m k = omega arith

-- AND gate k of a piece is garbled as AND gate m + k of the circuit, where m AND gates come before the piece.
module _ (h : ℕ → ℕ → ℕ) (n m k r a b : ℕ) where
  gate_zero-later : (op : Operation)
      → gate_zero (numbered_from (n + m) h) r k op a b
      ≡ gate_zero (numbered_from n h) r (m + k) op a b
  gate_zero-later op = grind (arith, first-tweak, second-tweak)

  gate_rows-later : (op : Operation)
      → gate_rows (numbered_from (n + m) h) r k op a b
      ≡ gate_rows (numbered_from n h) r (m + k) op a b
  gate_rows-later op = grind (arith, first-tweak, second-tweak)

with_row_pair-later : (before rows : List RowPair) (pair : Option RowPair)
    → before ++ with_row_pair rows pair ≡ with_row_pair (before ++ rows) pair
with_row_pair-later before rows pair = grind (arith, common_steps)

module _ (r first : ℕ) (c : Netlist) (given : List ℕ) (before : List RowPair) where
  -- The piece's row pairs are those of the AND gates after those before it.
  pub piece-count : (n : ℕ) (t : ZeroTableParts) (piece : List RowPair)
      → IsPieceAfter r first c given before n t piece
      → length before + length piece ≡ and_number c n
  piece-count n t piece is =
      let count = count_rows (numbered_from first hash) r c given n t.labels (before ++ piece)
      is.garbled in
      omega (arith, length-append before piece)

  -- One more gate is garbled.
  pub piece-next : IsLawful c → (i : ℕ) (g : Gate) → slice_get c.gates i ≡ Some g
      → (old new : ZeroTableParts) (piece new_piece : List RowPair)
      → IsPieceAfter r first c given before i old piece
      → new.offset ≡ old.offset → new.first ≡ old.first
      → new.labels ≡ set old.labels g.set (zero_of (numbered_from old.first hash) old.offset
      (slice_index old.labels) (old.made + length old.waiting) g.operation)
      → new_piece ≡ with_row_pair piece (gate_rows (numbered_from old.first hash) old.offset
      (old.made + length old.waiting) g.operation
      (first_read (slice_index old.labels) g.operation)
      (second_read (slice_index old.labels) g.operation))
      → new.made + length new.waiting
      ≡ old.made + length old.waiting + cond (is_and g.operation) 1 0
      → ((w : ℕ) → (w ≡ g.set → ⊥) → NoneSets w old.waiting → NoneSets w new.waiting)
      → IsPieceAfter r first c given before (i + 1) new new_piece
  piece-next lawful i g at old new piece new_piece is offset numbered labels pushed count waits =
      record {
        offset = offset ∙ is.offset;
        numbered = numbered ∙ is.numbered;
        wires = long ∙ is.wires;
        counted =
            let earlier = piece-count i old piece is in
            let now = count_rows h r c given (i + 1) new.labels (before ++ new_piece) garbled in
            omega (arith, length-append before new_piece, and_number-next c i g at);
        garbled = garbled;
        waiting = λ w unset.
            let yet = not_set_yet c w i g at unset in
            waits w yet.0 (is.waiting w yet.1);
      }
    where
      h : ℕ → ℕ → ℕ
      h = numbered_from first hash

      a : ℕ
      a = first_read (slice_index old.labels) g.operation

      b : ℕ
      b = second_read (slice_index old.labels) g.operation

      k : ℕ
      k = old.made + length old.waiting

      long : length new.labels ≡ length old.labels
      long = ap length labels ∙ length-set old.labels g.set _

      number : length before + k ≡ length (before ++ piece)
      number = omega (arith, is.counted, length-append before piece)

      zero-later : zero_of (numbered_from old.first hash) old.offset (slice_index old.labels) k
          g.operation
          ≡ zero_of h r (slice_index old.labels) (length (before ++ piece)) g.operation
      zero-later =
          rw (is.numbered, is.offset, ← number)
          (gate_zero-later hash first (length before) k r a b g.operation)

      rows-later : gate_rows (numbered_from old.first hash) old.offset k g.operation a b
          ≡ gate_rows h r (length (before ++ piece)) g.operation a b
      rows-later =
          rw (is.numbered, is.offset, ← number)
          (gate_rows-later hash first (length before) k r a b g.operation)

      garbled : AreGarbled h r c given (i + 1) new.labels (before ++ new_piece)
      garbled =
          garbled-next h r c given lawful i g at old.labels new.labels (before ++ piece)
          (before ++ new_piece) is.garbled (record {
            label = λ w. rw labels (set-put old.labels (slice_index old.labels) g.set _ _
                (omega (arith, lawful.sets i g at, is.wires)) (λ v. refl) zero-later w);
            there = omega (arith, lawful.sets i g at, long, is.wires);
            kept = omega (arith, long);
            few = omega (arith, long, is.wires);
            row_pairs = ap (λ l. before ++ l) pushed ∙ with_row_pair-later before piece _
                ∙ ap (with_row_pair (before ++ piece)) rows-later;
          })

-- AND gate k of a piece is evaluated as AND gate m + k of the circuit, where m row pairs came before the piece.
row-later : (before rows : List RowPair) (m k : ℕ) → length before ≡ m
    → row_at (before ++ rows) (m + k) ≡ row_at rows k
row-later before rows m k count =
    let right = get_or-append_right before rows m (m + k)
    (record { generator = 0; evaluator = 0 }) count (omega arith) in
    let same : (m + k) - m ≡ k = omega arith in
    right ∙ ap (row_at rows) same

pub active_of-later : (h : ℕ → ℕ → ℕ) (n m first k number : ℕ) (before rows : List RowPair)
    (active : ℕ → ℕ) (op : Operation) → length before ≡ m → first ≡ n + m → number ≡ m + k
    → active_of (numbered_from first h) active k (row_at rows k) op
    ≡ active_of (numbered_from n h) active number (row_at (before ++ rows) number) op
active_of-later h n m first k number before rows active op count first_is number_is =
    rw (first_is, number_is, row-later before rows m k count)
    (grind (arith, first-tweak, second-tweak))

module _ (h : ℕ → ℕ → ℕ) (c : Netlist) (given : ℕ → ℕ) (before rows : List RowPair) where
  -- A gate whose row pair has come is evaluated alike, whatever comes after.
  gate-same : (u v : ℕ → ℕ) → ((w : ℕ) → u w ≡ v w) → (k : ℕ) (op : Operation)
      → (is_and op ≡ true → k < length before)
      → active_of h u k (row_at before k) op ≡ active_of h v k (row_at (before ++ rows) k) op
  gate-same u v same k op within = grind (arith, same, get_or_append_left)

  active-same : (n : ℕ) → and_number c n ≤ length before → (w : ℕ)
      → values_after (active_rule h c before) c given n w
      ≡ values_after (active_rule h c (before ++ rows)) c given n w
  unfolding values_after
  active-same zero few w = refl
  active-same (suc n) few w =
      let same = active-same n (omega (arith, few, and_number-suc c n)) in
      elim (slice_get_cases c.gates n).1 [
        | inl (g, _, at, _) ↦
            rw at (λ t. if w == g.set
            then gate-same _ _ same (and_number c n) g.operation
            (λ and. omega (arith, and_number-and c n g at and, few)) t
            else same w t)
        | inr (past, none) ↦ rw none (same w)
      ]

  -- So the labels of all wires are the same.
  pub active_after-same : (n : ℕ) → and_number c n ≤ length before
      → map (values_after (active_rule h c before) c given n) (range_with_len 0 c.wires)
      ≡ map (values_after (active_rule h c (before ++ rows)) c given n) (range_with_len 0 c.wires)
  active_after-same n few =
      ap (λ f. map f (range_with_len 0 c.wires)) (λ t w. active-same n few w t)
