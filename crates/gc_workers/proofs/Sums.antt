-- Sums over lists: of two lists joined, of a list with one item changed, and single terms of them.
-- And what holds of each item of a list in which items change.
use Rattle.std.proofs.Common.{◌≡◌, ◌≢◌, ℕ, zero, suc, ◌+◌, ◌<◌, ◌≤◌, List, [], ◌∷◌, ◌++◌, set, refl, sym, ap, arith, inl, inr, get_or, replicate}
use mathlib.Core.Option.{some, some-injective, some-ne-none}
use Rattle.std.proofs.lemmas.Bool.Decides.{nat_tests}
use Rattle.std.proofs.lemmas.Grind.{common_steps}
use lib.ListN.{get_elem?}
use Rattle.atomic_table.proofs.Lists.{at_set, at_snoc}
use Rattle.gc_workers.specs.Counts.{total, only}

module _ {A : Type 0} (f : A → ℕ) where
  pub total-append : (xs ys : List A) → total f (xs ++ ys) ≡ total f xs + total f ys
  total-append [] ys = omega arith
  total-append (x ∷ xs) ys = omega (arith, total-append xs ys)

  -- one item changed
  pub total-set : (xs : List A) (i : ℕ) (x y : A) → get_elem? xs i ≡ some x
      → total f (set xs i y) + f x ≡ total f xs + f y
  total-set [] i x y at = absurd (some-ne-none x (sym at))
  total-set (z ∷ xs) zero x y at = omega (arith, ap f (some-injective z x at))
  total-set (z ∷ xs) (suc i) x y at = omega (arith, total-set xs i x y at)

  -- one item changed and one added,
  pub total-dealt : (xs : List A) (i : ℕ) (x y z : A) → get_elem? xs i ≡ some x
      → total f (set xs i y ++ z ∷ []) + f x ≡ total f xs + f y + f z
  total-dealt xs i x y z at =
      omega (arith, total-set xs i x y at, total-append (set xs i y) (z ∷ []))

  -- and two changed
  pub total-joined : (xs : List A) (i k : ℕ) (x y z w : A) → get_elem? xs i ≡ some x
      → get_elem? (set xs i y) k ≡ some z
      → total f (set (set xs i y) k w) + f x + f z ≡ total f xs + f y + f w
  total-joined xs i k x y z w at there =
      omega (arith, total-set xs i x y at, total-set (set xs i y) k z w there)

  -- one term is within the sum,
  pub term_le : (xs : List A) (i : ℕ) (x : A) → get_elem? xs i ≡ some x → f x ≤ total f xs
  term_le [] i x at = absurd (some-ne-none x (sym at))
  term_le (z ∷ xs) zero x at = omega (arith, ap f (some-injective z x at))
  term_le (z ∷ xs) (suc i) x at = omega (arith, term_le xs i x at)

  -- and so are two
  pub terms_le : (xs : List A) (i j : ℕ) (x y : A) → j ≢ i → get_elem? xs i ≡ some x
      → get_elem? xs j ≡ some y → f x + f y ≤ total f xs
  terms_le [] i j x y apart at there = absurd (some-ne-none x (sym at))
  terms_le (z ∷ xs) zero zero x y apart at there = absurd (apart refl)
  terms_le (z ∷ xs) zero (suc j) x y apart at there =
      omega (arith, ap f (some-injective z x at), term_le xs j y there)
  terms_le (z ∷ xs) (suc i) zero x y apart at there =
      omega (arith, ap f (some-injective z y there), term_le xs i x at)
  terms_le (z ∷ xs) (suc i) (suc j) x y apart at there =
      omega (arith, terms_le xs i j x y (λ e. apart (ap suc e)) at there)

-- where one item has all that n counts, and an item without n has no f, it has all of f
module _ {A : Type 0} (f n : A → ℕ) where
  abbrev Spent : List A → Type 0
  Spent xs = (j : ℕ) (u : A) → get_elem? xs j ≡ some u → n u ≡ 0 → f u ≡ 0

  none_counts : (xs : List A) → total n xs ≡ 0 → Spent xs → total f xs ≡ 0
  none_counts [] none spent = refl
  none_counts (x ∷ xs) none spent = let here = spent zero x refl (omega arith) in
      omega (arith, none_counts xs (omega arith) (λ j. spent (suc j)))

  pub sole : (xs : List A) (i : ℕ) (x : A) → get_elem? xs i ≡ some x → total n xs ≡ n x → Spent xs
      → total f xs ≡ f x
  sole [] i x at all spent = absurd (some-ne-none x (sym at))
  sole (z ∷ xs) zero x at all spent = let e = some-injective z x at in
      omega (arith, ap f e, none_counts xs (omega (arith, ap n e)) (λ j. spent (suc j)))
  sole (z ∷ xs) (suc i) x at all spent = let le = term_le n xs i x at in
      let here = spent zero z refl (omega arith) in
      omega (arith, sole xs i x at (omega arith) (λ j. spent (suc j)))

-- what holds of each item of a list, in a list of one item,
module _ {A : Type 0} (P : A → Type 0) where
  abbrev Each : List A → Type 0
  Each xs = (j : ℕ) (u : A) → get_elem? xs j ≡ some u → P u

  pub each-one : (x : A) → P x → Each (x ∷ [])
  each-one x p zero u e = rw (← some-injective x u e) p
  each-one x p (suc j) u e = absurd (some-ne-none u (sym e))

  -- in one with one item changed,
  pub each-set : (xs : List A) (i : ℕ) (y : A)
      → ((j : ℕ) (u : A) → j ≢ i → get_elem? xs j ≡ some u → P u) → P y → Each (set xs i y)
  each-set xs i y others p j u e = elim (at_set xs i j y u e) [
    | inl here ↦ rw (← here.1) p
    | inr there ↦ others j u there.0 there.1
  ]

  -- with one item more,
  pub each-dealt : (xs : List A) (i : ℕ) (y z : A) → Each xs → P y → P z
      → Each (set xs i y ++ z ∷ [])
  each-dealt xs i y z all p q j u e = elim (at_snoc (set xs i y) z u j e) [
    | inl before ↦ each-set xs i y (λ k w _. all k w) p j u before
    | inr last ↦ rw (← last) q
  ]

  -- and with two changed
  pub each-joined : (xs : List A) (i k : ℕ) (y z : A) → Each xs → P y → P z
      → Each (set (set xs i y) k z)
  each-joined xs i k y z all p q =
      each-set (set xs i y) k z (λ j u _. each-set xs i y (λ l w _. all l w) p j u) q

pub only_same : (x y : ℕ) → x ≡ y → only x y ≡ 1
only_same x y e = grind (arith, nat_tests)

pub only_other : (x y : ℕ) → x ≢ y → only x y ≡ 0
only_other x y ne = grind (arith, nat_tests)

pub only_le : (x y : ℕ) → only x y ≤ 1
only_le x y = grind (arith, nat_tests)

pub only_is : (x y : ℕ) → 0 < only x y → x ≡ y
only_is x y more = grind (arith, nat_tests)

-- a word of a list of zeros is 0, and past the end too
pub zeros : (n i : ℕ) → get_or {A = ℕ} (replicate n 0) i 0 ≡ 0
zeros n i = grind (arith, common_steps)
