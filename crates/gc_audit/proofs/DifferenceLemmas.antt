-- Two lists that are gone through place by place until they differ.
use Rattle.gc_audit.proofs.Names.{◌≡◌, ◌≢◌, ℕ, ◌+◌, List, length, take, slice_get, Option, Some, None, MatchOption, refl, sym, ap, ◌∙◌, arith, take_all, take_more_same, slice_get_within, get_or_from_slice_get}
use Rattle.gc_audit.specs.Difference.{DifferFirstAt}

module _ {X : Type 0} (xs ys : List X) where
  -- They first differ where they are the same before, and their elements differ.
  pub differ_first : (k : ℕ) (x y : X) → take k xs ≡ take k ys → slice_get xs k ≡ Some x
      → slice_get ys k ≡ Some y → x ≢ y → DifferFirstAt xs ys k
  differ_first k x y before at_x at_y differ = record {
    before = before;
    there = λ same. differ cc;
  }

  -- Where their elements are the same, they are the same up to the next place,
  pub same_more : (k : ℕ) (x y : X) → take k xs ≡ take k ys → slice_get xs k ≡ Some x
      → slice_get ys k ≡ Some y → x ≡ y → take (k + 1) xs ≡ take (k + 1) ys
  same_more k x y before at_x at_y same =
      take_more_same xs ys k x (slice_get_within xs k x at_x) (slice_get_within ys k y at_y) before
      (get_or_from_slice_get xs k x x at_x ∙ same ∙ sym (get_or_from_slice_get ys k y x at_y))

  -- and at the end they are the same.
  pub same_all : (n : ℕ) → length xs ≡ n → length ys ≡ n → take n xs ≡ take n ys → xs ≡ ys
  same_all n len_x len_y same =
      sym (take_all n xs (omega arith)) ∙ same ∙ take_all n ys (omega arith)

-- Where two lists are the same, no first difference is found.
pub none_found : {D X : Type 0} (found : Option D) (xs ys : List X) (place : D → ℕ)
    (Is : D → Type 0)
    → ((d : D) → Is d → DifferFirstAt xs ys (place d)) → MatchOption found (xs ≡ ys) Is → xs ≡ ys
    → found ≡ None
none_found None xs ys place Is first is same = refl
none_found (Some d) xs ys place Is first is same =
    absurd ((first d is).there (ap (λ l. slice_get l (place d)) same))
