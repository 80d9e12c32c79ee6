-- Several numbers, one after another.
use Rattle.gc_circuit.proofs.Names.{◌≡◌, ℕ, suc, ◌+◌, ◌-◌, ◌<◌, ◌≤◌, ◌++◌, List, [], ◌∷◌, Ok, refl, arith, ◌>>=◌, number_at, numbers_at, left_after, numbers_left}

-- a turn of a loop, with i numbers read of count, and what it leaves
module _ (count i : ℕ) (ts : List (List ℕ)) (below : i < count) where
  left : count - i ≡ suc (count - (i + 1))
  left = omega arith

  pub numbers_more : (before : List ℕ) → numbers_at (count - i) before ts
      ≡ (number_at ts >>= (λ next. numbers_at (count - (i + 1)) (before ++ next.0 ∷ []) next.1))
  unfolding numbers_at
  numbers_more before = rw left refl

  pub left_more : numbers_left (count - i) ts
      ≡ left_after (number_at ts) ts (λ next. numbers_left (count - (i + 1)) next.1)
  unfolding numbers_left
  left_more = rw left refl

-- after the last turn
pub numbers_done : (count i : ℕ) (before : List ℕ) (ts : List (List ℕ)) → count ≤ i →
    numbers_at (count - i) before ts ≡ Ok (before, ts)
unfolding numbers_at
numbers_done count i before ts past = let none : count - i ≡ 0 = omega arith in rw none refl
