-- Results of a list of things, one for each in order.
use Rattle.gc_kept.proofs.Names.{◌≡◌, ℕ, ◌+◌, ◌*◌, ◌<◌, List, [], ◌∷◌, ◌++◌, length, take, get_or, arith, AllZip, take_more, all_zipped_more}

module _ {A B : Type 0} (R : A → B → Type 0) (xs : List A) where
  -- One more,
  pub all_more : (ys : List B) (i : ℕ) (d x : A) (y : B) → i < length xs → x ≡ get_or xs i d
      → AllZip R (take i xs) ys → R x y → AllZip R (take (i + 1) xs) (ys ++ y ∷ [])
  all_more ys i d x y within is before holds =
      rw (take_more xs i d within, ← is) (all_zipped_more R (take i xs) ys x y before holds)

  -- or two more, of those that are in pairs.
  pub two_more : (ys : List B) (i : ℕ) (d x x' : A) (y y' : B) → 2 * i + 1 < length xs
      → x ≡ get_or xs (2 * i) d → x' ≡ get_or xs (2 * i + 1) d
      → AllZip R (take (2 * i) xs) ys → R x y → R x' y'
      → AllZip R (take (2 * (i + 1)) xs) ((ys ++ y ∷ []) ++ y' ∷ [])
  two_more ys i d x x' y y' within is is' before holds holds' =
      let place : 2 * (i + 1) ≡ 2 * i + 1 + 1 = omega arith in
      rw place (all_more (ys ++ y ∷ []) (2 * i + 1) d x' y' within is'
      (all_more ys (2 * i) d x y (omega arith) is before holds) holds')
