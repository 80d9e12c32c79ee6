-- What a `Slot` owns: nothing at null, or a box of the program's heap.
use Rattle.halfgates_c.proofs.Walk.{◌≡◌, ℕ, List, ◌∷◌, refl, Ura, Logic, sem, Item, Goal, Seq, ‵, given, ◌$◌, drop, use1, learn, Fml, RattleType, Laws, Ptr, block_ptr, null_ptr, bare, via, guard_i, snd∗, fact_use, lone, lies_at, Testable, Option, None, Some, box_behind, impossible}
use base.Fraction.{full_share}
use Rattle.std.specs.declared.alloc.Global.{Global}
use Rattle.std.specs.contracts.alloc.Global as global
use Rattle.std.proofs.alloc.Global.TheLaws as global_laws
pub use Rattle.std.specs.contracts.impls.GlobalAllocator.TheImpl.{ghosts}
use Rattle.std.proofs.GlobalToken.{dealloc_token-Testable}
use Rattle.halfgates_c.proofs.Pair.{box_owns}

-- the allocator of the program's heap
abbrev pub Heap : RattleType
Heap = global.the_row

abbrev pub heap_laws : Laws Heap
heap_laws = global_laws.the_row_laws

module _ (R : RattleType) (alloc : Global) where
  abbrev pub box_at : Ptr → R.Denot → Fml
  box_at = box_owns (ghosts.dealloc_token alloc) R

  module _ {M : Type 1} {𝓤 : Ura M} {𝓛 : Logic 𝓤} {K : Type 0} {Γ : List (Item 𝓤)}
      {G : Goal 𝓤 𝓛.H} where
    -- the two cases of what lies behind a pointer. The right to free a box's block makes its
    -- pointer one that may be compared with null
    pub null_or_box : K → (at : Ptr) (value : Option R.Denot)
        → (at ≡ null_ptr → value ≡ None → Seq K 𝓛 Γ G)
        → ((block offset : ℕ) (x : R.Denot) → at ≡ block_ptr block offset → value ≡ Some x
        → Testable (block_ptr block offset) → Seq K 𝓛 (‵ (box_at (block_ptr block offset) x) ∷ Γ) G)
        → Seq K 𝓛 (‵ (box_behind R alloc at value) ∷ Γ) G
    null_or_box t null_ptr None at_null at_box = drop t $ at_null refl refl
    null_or_box t null_ptr (Some x) at_null at_box = impossible t
    null_or_box t (block_ptr block offset) None at_null at_box = impossible t
    null_or_box t (block_ptr block offset) (Some x) at_null at_box =
        let at : Ptr = block_ptr block offset in
        let box = sem 𝓛 (box_at at x) in
        let token = sem 𝓛 (ghosts.dealloc_token alloc (bare (lone R.mir)) at) in
        let by_token = via 𝓤 token (snd∗ 𝓤 (sem 𝓛 (lies_at R full_share at x)) token)
        (dealloc_token-Testable 𝓛 alloc (bare (lone R.mir)) at) in
        use1 𝓛 (given (Testable at) (‵ (box_at at x)))
        (fact_use 𝓤 (Testable at) by_token (guard_i 𝓤 (Testable at) box)) $
        learn t (at_box block offset x refl refl)
