-- The row pairs of a garbling, gate after gate.
use Rattle.gc_half.proofs.Names.{◌≡◌, ℕ, zero, suc, ◌+◌, ◌<◌, ◌⊎◌, ◌++◌, inl, inr, List, [], ◌∷◌, length, take, take_all, slice_get, Some, refl, sym, ap, arith, gets, slice_get_cases, Operation, And, Gate, Netlist, and_number, RowPair, rows_of, IsGarbling, with_operation, cases_eq, common_steps, rows_after}
use Rattle.gc_half.proofs.AndNumbers.{and_number-and, and_number-other}

pub slice_get-push : {X : Type 0} (xs : List X) (x : X)
    → slice_get (xs ++ x ∷ []) (length xs) ≡ Some x
slice_get-push xs x = grind (arith, common_steps, gets)

pub slice_get-append : {X : Type 0} (xs ys : List X) (i : ℕ) (x : X) → slice_get xs i ≡ Some x
    → slice_get (xs ++ ys) i ≡ Some x
slice_get-append xs ys i x h = grind (arith, common_steps, gets)

take-found : {X : Type 0} (xs : List X) (i : ℕ) (x : X) → slice_get xs i ≡ Some x
    → take (i + 1) xs ≡ take i xs ++ x ∷ []
take-found xs i x h = grind (arith, common_steps, gets)

-- The element at a place of a list that ends with x is x, or it is in the list before.
last-or-before : {X : Type 0} (xs : List X) (x y : X) (i : ℕ) → slice_get (xs ++ x ∷ []) i ≡ Some y
    → (slice_get xs i ≡ Some y) ⊎ (x ≡ y)
last-or-before xs x y i h = grind (arith, common_steps, gets)

module _ (hash : ℕ → ℕ → ℕ) (r : ℕ) (c : Netlist) (label : ℕ → ℕ) where
  -- the row pairs after the first n gates
  abbrev pub rows : ℕ → List RowPair
  rows n = rows_after hash r c label n

  pub rows_after-start : rows 0 ≡ []
  unfolding rows_after
  rows_after-start = refl

  -- One more gate: an AND gate adds its row pair, and any other gate adds none.
  pub rows_after-next : (i : ℕ) (g : Gate) → slice_get c.gates i ≡ Some g
      → rows (suc i) ≡ with_operation hash r label (and_number c i) (rows i) g.operation
  unfolding rows_after
  rows_after-next i g at = rw at refl

  -- Gate n is an AND gate, which adds its row pair and is counted, or nothing is added.
  abbrev Counts : ℕ → Type 0
  Counts n =
      ((g : Gate) × (a : ℕ) × (b : ℕ) × (slice_get c.gates n ≡ Some g) × (g.operation ≡ And a b)
      × (and_number c (suc n) ≡ and_number c n + 1)
      × (rows (suc n) ≡ rows n ++ rows_of hash r label (and_number c n) a b ∷ []))
      ⊎ ((and_number c (suc n) ≡ and_number c n) × (rows (suc n) ≡ rows n))

  counts-at : (n : ℕ) (g : Gate) → slice_get c.gates n ≡ Some g → (op : Operation)
      → g.operation ≡ op → Counts n
  counts-at n g at (And a b) is =
      inl (g, a, b, at, is, and_number-and c n g at (rw is refl), rw is at (rows_after-next n g at))
  counts-at n g at op is =
      inr (and_number-other c n g at (rw is refl), rw is at (rows_after-next n g at))

  counts : (n : ℕ) → Counts n
  unfolding rows_after
  counts n = elim (slice_get_cases c.gates n).1 [
    | inl (g, _, at, _) ↦ counts-at n g at g.operation refl
    | inr (past, none) ↦
        inr (rw (take_all n c.gates past, take_all (suc n) c.gates (omega arith)), rw none)
  ]

  -- There are as many row pairs as AND gates so far,
  pub length-rows_after : (n : ℕ) → length (rows n) ≡ and_number c n
  length-rows_after zero = ap length rows_after-start
  length-rows_after (suc n) = grind (arith, common_steps, counts n, length-rows_after n)

  -- that of an AND gate is at its AND number,
  pub rows_after-at : (n i : ℕ) (g : Gate) (a b : ℕ) → i < n → slice_get c.gates i ≡ Some g
      → g.operation ≡ And a b
      → slice_get (rows n) (and_number c i) ≡ Some (rows_of hash r label (and_number c i) a b)
  rows_after-at zero i g a b below at is = absurd (omega arith)
  rows_after-at (suc n) i g a b below at is = elim (cases_eq i n) [
    | inl e ↦
        rw (← e, rows_after-next i g at, is, ← length-rows_after i) (slice_get-push (rows i) _)
    | inr ne ↦
        let before = rows_after-at n i g a b (omega arith) at is in
        grind (arith, slice_get-append, counts n, before)
  ]

  -- and there are no others.
  pub rows_after-each : (P : RowPair → Type 0)
      → ((k a b : ℕ) → P (rows_of hash r label k a b))
      → (n k : ℕ) (pair : RowPair) → slice_get (rows n) k ≡ Some pair → P pair
  rows_after-each P each zero k pair at = let e = rw rows_after-start at at in cc
  rows_after-each P each (suc n) k pair at =
      let before = rows_after-each P each n k pair in
      grind (arith, last-or-before, counts n, before, each (and_number c n))

  -- The rows of any garbling with these zero labels are these.
  pub rows-take : (given : ℕ → ℕ) (p : List RowPair) → IsGarbling hash r c given label p → (n : ℕ)
      → take (and_number c n) p ≡ rows n
  rows-take given p garbling zero = sym rows_after-start
  rows-take given p garbling (suc n) =
      let before = rows-take given p garbling n in
      elim (counts n) [
        | inl (g, a, b, at, is, count, row) ↦
            rw (count, row, ← before) (take-found p _ _ (garbling.and_gates n g a b at is))
        | inr (count, row) ↦ rw (count, row) before
      ]
