-- Lists with one place set, counts, and tables over the numbers below n.
use Rattle.gc_half.proofs.Names.{inl, inr, ◌≡◌, ◌≢◌, ℕ, zero, suc, ◌+◌, ◌<◌, List, [], ◌∷◌, length, length-set, map, set, slice_get, Some, Bool, true, false, cond, replicate, refl, arith, range_with_len, cases_eq, cases_lt, common_steps, length-map-range_with_len, get_or-map-range_with_len, slice_get_within, get_or_from_slice_get, gets}
use Rattle.std.proofs.Common.{count_by}
use Rattle.std.specs.List.{position_or_len}
use Rattle.std.proofs.lemmas.List.{get_or-replicate}
use Rattle.std.proofs.lemmas.List.Sums.{sum_by-set, sum_by-cons, sum_by-le, get_or-le-sum_by, count_by-le-length, fails_before_first}
use Rattle.std.proofs.lemmas.List.Folds.{sum_by-replicate}

-- ---- one place set

module _ {X : Type 0} (xs : List X) (i : ℕ) where
  pub slice_get-set_other : (j : ℕ) (y : X) → j ≢ i → slice_get (set xs i y) j ≡ slice_get xs j
  slice_get-set_other j y h = grind (arith, common_steps, gets)

  pub slice_get-set_same : (y : X) → i < length xs → slice_get (set xs i y) i ≡ Some y
  slice_get-set_same y h = grind (arith, common_steps, gets)

-- what a list with one place set has at each place, for `grind`
pub ruleset one_place =
    (cases_eq, length-set, slice_get_within, slice_get-set_other, slice_get-set_same)

-- what an element adds to a count
abbrev one_if : Bool → ℕ
one_if b = cond b 1 0

-- a count where a place is set
module _ {X : Type 0} (p : X → Bool) (xs : List X) (i : ℕ) (x y : X)
    (at : slice_get xs i ≡ Some x) where
  count_by-set_at : count_by p (set xs i y) + one_if (p x) ≡ count_by p xs + one_if (p y)
  count_by-set_at =
      let sum = sum_by-set (λ z. one_if (p z)) xs i y x in
      grind (arith, slice_get_within, get_or_from_slice_get)

  -- where the old element passed as the new one does,
  pub count_by-set : p x ≡ p y → count_by p (set xs i y) ≡ count_by p xs
  count_by-set same = grind (arith, count_by-set_at)

  -- where the old one did not pass and the new one does,
  pub count_by-set_more : p x ≡ false → p y ≡ true → count_by p (set xs i y) ≡ count_by p xs + 1
  count_by-set_more fails passes = grind (arith, count_by-set_at)

  -- and where the old one passed and the new one does not
  pub count_by-set_less : p x ≡ true → p y ≡ false → count_by p (set xs i y) + 1 ≡ count_by p xs
  count_by-set_less passes fails = grind (arith, count_by-set_at)

-- ---- counts

module _ {X : Type 0} (p : X → Bool) where
  -- a count of one element more
  count_by-cons : (x : X) (xs : List X) → count_by p (x ∷ xs) ≡ one_if (p x) + count_by p xs
  count_by-cons = sum_by-cons (λ x. one_if (p x))

  -- some pass where one does
  pub count_by-some : (xs : List X) (i : ℕ) (x : X) → slice_get xs i ≡ Some x → p x ≡ true
      → 0 < count_by p xs
  count_by-some xs i x at passes =
      let least = get_or-le-sum_by (λ z. one_if (p z)) xs i x in
      grind (arith, slice_get_within, get_or_from_slice_get)

  -- as many pass as there are where each passes,
  pub count_by-all : (xs : List X) → ((i : ℕ) (x : X) → slice_get xs i ≡ Some x → p x ≡ true)
      → count_by p xs ≡ length xs
  count_by-all [] h = refl
  count_by-all (x ∷ xs) h =
      grind (arith, count_by-cons x xs, h 0 x refl, count_by-all xs (λ i. h (suc i)))

  -- and only there
  pub count_by-all_back : (xs : List X) → count_by p xs ≡ length xs → (i : ℕ) (x : X)
      → slice_get xs i ≡ Some x → p x ≡ true
  count_by-all_back [] h i x at = cc
  count_by-all_back (y ∷ ys) h zero x at =
      grind (arith, count_by-cons y ys, count_by-le-length p ys)
  count_by-all_back (y ∷ ys) h (suc i) x at =
      grind (arith, count_by-cons y ys, count_by-le-length p ys, count_by-all_back ys)

  -- none pass of copies of one that does not
  pub count_by-replicate : (n : ℕ) (x : X) → p x ≡ false → count_by p (replicate n x) ≡ 0
  count_by-replicate n x fails = grind (arith, sum_by-replicate (λ y. one_if (p y)) n x)

  -- the first element that passes is there, where some do
  pub count_by-found : (xs : List X) → 0 < count_by p xs → position_or_len p xs < length xs
  count_by-found xs some = elim (cases_lt (position_or_len p xs) (length xs)) [
    | inl found ↦ found
    | inr past ↦
        let none = sum_by-le (λ x. one_if (p x)) 0 xs
        (λ k d within. grind (arith, fails_before_first p xs k)) in
        absurd (omega (arith, none))
  ]

-- a count of a mapped list
pub count_by-map : {X Y : Type 0} (p : Y → Bool) (q : X → Bool) (f : X → Y) (xs : List X)
    → ((x : X) → p (f x) ≡ q x) → count_by p (map f xs) ≡ count_by q xs
count_by-map p q f [] same = refl
count_by-map p q f (x ∷ xs) same =
    let rest = count_by-map p q f xs same in
    grind (arith, count_by-cons p (f x) (map f xs), count_by-cons q x xs, same x)

-- as many pass one test as pass either of two, where that holds place by place
pub count_by-both : {X Y : Type 0} (p : X → Bool) (q r : Y → Bool) (xs : List X) (ys : List Y)
    → length xs ≡ length ys
    → ((i : ℕ) (x : X) (y : Y) → slice_get xs i ≡ Some x → slice_get ys i ≡ Some y
    → cond (p x) 1 0 ≡ cond (q y) 1 0 + cond (r y) 1 0)
    → count_by p xs ≡ count_by q ys + count_by r ys
count_by-both p q r [] [] count each = refl
count_by-both p q r [] (y ∷ ys) count each = absurd (omega arith)
count_by-both p q r (x ∷ xs) [] count each = absurd (omega arith)
count_by-both p q r (x ∷ xs) (y ∷ ys) count each =
    let rest = count_by-both p q r xs ys (omega arith) (λ i. each (suc i)) in
    let first = each 0 x y refl refl in
    omega (arith, count_by-cons p x xs, count_by-cons q y ys, count_by-cons r y ys)

-- ---- tables

pub slice_get-table : {X : Type 0} (f : ℕ → X) (n i : ℕ) → i < n
    → slice_get (map f (range_with_len 0 n)) i ≡ Some (f i)
slice_get-table f n i h =
    grind (arith, common_steps, gets, length-map-range_with_len, get_or-map-range_with_len)

pub slice_get-replicate : {X : Type 0} (n i : ℕ) (x y : X) → slice_get (replicate n x) i ≡ Some y
    → y ≡ x
slice_get-replicate n i x y at = grind (arith, common_steps, gets, get_or-replicate)
