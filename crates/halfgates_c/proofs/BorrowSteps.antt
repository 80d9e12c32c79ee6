-- What a `Borrow` owns, and what a reference to it holds: nothing at null, or a right to read a value.
use Rattle.halfgates_c.proofs.Walk.{◌≡◌, ℕ, List, ◌∷◌, refl, Ura, Logic, Item, Goal, Seq, ‵, ◌$◌, drop, fsplit, fpick, ftrue, RattleType, Ptr, block_ptr, null_ptr, Lft, ffalse, RowLaws, Testable, lent_at, lent_at_shr_laws, Lends, Lends-both, Lends-false, Lends-nothing, Lends-said, Option, lent_laws, Lends-part, None, Some, borrow_owns, borrow_shares, may_test, impossible}
use denote.Pure.{Pure}
use denote.Sharing.{ShrLaws, said}
use denote.SharingLaws.{beside_shr_laws, nothing_shr_laws, said_shr_laws}
use Rattle.left_right.specs.Parted.{part_owns, part_shares}

may_test_pure : (p : Ptr) → Pure (may_test p)
may_test_pure p = λ _. tt

module _ (R : RattleType) (laws : RowLaws R) where
  -- what a reference holds can be had twice, and for a shorter time
  pub shares_laws : (p : Ptr) (value : Option R.Denot) (round : ℕ)
      → ShrLaws (borrow_shares R p value round)
  shares_laws null_ptr None round = nothing_shr_laws
  shares_laws null_ptr (Some x) round = said_shr_laws ffalse tt
  shares_laws (block_ptr b o) None round = said_shr_laws ffalse tt
  shares_laws (block_ptr b o) (Some x) round =
      let p = block_ptr b o in
      beside_shr_laws (said (may_test p)) (part_shares R p x round)
      (said_shr_laws (may_test p) (may_test_pure p))
      (lent_laws (lent_at R p x) (lent_at_shr_laws R laws p x) round)

  module _ {M : Type 1} {𝓤 : Ura M} (𝓛 : Logic 𝓤) where
    -- a reference is made of a borrow
    pub lends : (p : Ptr) (value : Option R.Denot) (round parts : ℕ) (l : Lft)
        → Lends 𝓛 (borrow_owns R p value round parts) (borrow_shares R p value round) l
    lends null_ptr None round parts l = Lends-nothing 𝓛 ftrue l
    lends null_ptr (Some x) round parts l = Lends-false 𝓛 (said ffalse) l
    lends (block_ptr b o) None round parts l = Lends-false 𝓛 (said ffalse) l
    lends (block_ptr b o) (Some x) round parts l =
        let p = block_ptr b o in
        Lends-both 𝓛 (may_test p) (part_owns R p x round parts) (said (may_test p))
        (part_shares R p x round) l (Lends-said 𝓛 (may_test p) (may_test_pure p) l)
        (Lends-part (lent_at R p x) (lent_at_shr_laws R laws p x) 𝓛 round parts l)

module _ (R : RattleType) {M : Type 1} {𝓤 : Ura M} {𝓛 : Logic 𝓤} {K : Type 0} {Γ : List (Item 𝓤)}
    {G : Goal 𝓤 𝓛.H} where
  -- the two cases of what a reference holds
  pub null_or_borrow : K → (κ : Lft) (p : Ptr) (value : Option R.Denot) (round : ℕ)
      → (p ≡ null_ptr → value ≡ None → Seq K 𝓛 Γ G)
      → ((block offset : ℕ) (x : R.Denot) → p ≡ block_ptr block offset → value ≡ Some x
      → Testable (block_ptr block offset)
      → Seq K 𝓛 (‵ (part_shares R (block_ptr block offset) x round κ) ∷ Γ) G)
      → Seq K 𝓛 (‵ (borrow_shares R p value round κ) ∷ Γ) G
  null_or_borrow t κ null_ptr None round at_null at_block = drop t $ at_null refl refl
  null_or_borrow t κ null_ptr (Some x) round at_null at_block = impossible t
  null_or_borrow t κ (block_ptr b o) None round at_null at_block = impossible t
  null_or_borrow t κ (block_ptr b o) (Some x) round at_null at_block =
      fsplit t $ fpick t (λ may. drop t $ at_block b o x refl refl may)
