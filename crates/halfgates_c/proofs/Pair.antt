-- The struct of a pointer and an allocator, as the machine holds it. `Box`, `BoxParts` and
-- `Slot` are such structs.
use Rattle.halfgates_c.proofs.Walk.{◌≡◌, ℕ, List, [], ◌∷◌, ◌++◌, refl, ap, ◌∙◌, lit<, T, Ura, sem, Logic, Val, vptr, Fml, Item, Goal, Seq, Step, step, ‵, ◌$◌, move, drop, fsplit, fjoin, fpick, fpack, feq_i, feq_l, nothing, layout, Laws, dnil, RattleType, Valss, Ptr, block_ptr, null_ptr, ptr_val, true, ◌&&◌, impl, tnil, bare, vstruct, vcons, vnil, of_list, has_ty, WT, never, fst∗, fex, fsep, RawPtr, lone, in_a_block, Shape, within, Al, handle_tells, Good}
pub use mir.ValLaws.{and_in}
use Rattle.core.specs.declared.alloc.Allocator.{Ghosts}
pub use Rattle.std_alloc.specs.Box.Ownership.{box_owns}

-- the struct's machine value
abbrev pub pair : Val → Val → Val
pair pointer heap = vstruct (vcons pointer (vcons heap vnil))

-- a pointer's machine value has a pointer's type, at a block as at null
pub pointer_fits : (at : Ptr) → Good (lone RawPtr.mir) (ptr_val at)
pointer_fits (block_ptr block offset) = (tt, tt)
pointer_fits null_ptr = (tt, record { fits = lit< tt })

module _ (A : RattleType) where
  abbrev shape : Shape
  shape = record { name = []; args = []; types = []; fields = RawPtr ∷ A ∷ [] }

  -- of what the struct owns, what lies in its fields. The struct's name makes no difference
  abbrev pub fields_own : Ptr → A.Denot → List Val → Fml
  fields_own at alloc values = fex (Valss (RawPtr ∷ A ∷ [])) (within shape (at, (alloc, tt)) values)

  -- a pointer and a value of the allocator's type make a value of the struct's type
  pub pair_fits : (at : Ptr) (heap : Val) → Good (layout A) heap
      → T (has_ty (lone RawPtr.mir) (ptr_val at) && (has_ty (layout A) heap && true))
      × WT (pair (ptr_val at) heap)
  pair_fits at heap fits =
      let pointer = pointer_fits at in
      (and_in _ _ pointer.0 (and_in _ true fits.0 tt), (pointer.1, (fits.1, tt)))

  module _ (laws : Laws A) (ghosts : Ghosts A.Denot) {M : Type 1} {𝓤 : Ura M} {𝓛 : Logic 𝓤}
      {K : Type 0} {Γ : List (Item 𝓤)} {G : Goal 𝓤 𝓛.H} where
    -- takes apart a struct that owns something behind its pointer: it is a pair, of this pointer
    -- and of a value that the allocator owns
    pub pair_out : K → (behind : Fml) (at : Ptr) (alloc : A.Denot) (values : List Val)
        → ((heap : Val) → values ≡ pair (ptr_val at) heap ∷ [] → Good (layout A) heap
        → Seq K 𝓛 (‵ behind ∷ ‵ (A.own_val alloc (heap ∷ [])) ∷ Γ) G)
        → Seq K 𝓛 (‵ (fsep (fields_own at alloc values) behind) ∷ Γ) G
    pair_out t behind at alloc values rest =
        let code = impl [] tnil dnil in
        let allocator : Al = record { row = A; laws = laws; g = ghosts; d = code; drops = code } in
        fsplit t $ fpick t (λ parts.
        -- the value is the struct of its two parts
        fsplit t $ feq_l t (λ is_struct.
        -- the first part is the pointer
        fsplit t $ feq_l t (λ is_pointer.
        -- the second is one value, of the allocator's type
        fsplit t $ handle_tells allocator t alloc parts.1.0 (λ heap is_heap fits.
        move t (1 ∷ []) $ drop t $ move t (1 ∷ []) $
        rest heap (is_struct ∙ (λ i. vstruct (of_list (is_pointer i ++ (is_heap i ++ []))) ∷ []))
        fits))))

    -- puts such a struct together
    pub pair_in : K → (behind : Fml) (at : Ptr) (alloc : A.Denot) (heap : Val)
        → Step K 𝓛 (‵ (fsep (fields_own at alloc (pair (ptr_val at) heap ∷ [])) behind) ∷ Γ) G
        (‵ behind ∷ ‵ (A.own_val alloc (heap ∷ [])) ∷ Γ) G
    pair_in t behind at alloc heap = step (λ rest.
        let pointer : List Val = ptr_val at ∷ [] in
        let value : List Val = pair (ptr_val at) heap ∷ [] in
        -- the allocator's field, and no field after it
        nothing t $ move t (2 ∷ 0 ∷ []) $ fjoin t $
        -- the pointer's field, before it
        feq_i t (List Val) pointer pointer refl $ fjoin t $
        -- the value is the struct of the two
        feq_i t (List Val) value value refl $ fjoin t $
        fpack t (Valss (RawPtr ∷ A ∷ [])) (within shape (at, (alloc, tt)) value)
        (pointer, (heap ∷ [], tt)) $
        -- what lies behind the pointer comes last
        fjoin t $ rest)

    -- takes apart a struct that owns a box: its pointer points into a block
    pub box_out : K → (R : RattleType) (at : Ptr) (alloc : A.Denot) (value : R.Denot)
        → (let box : Ptr → Fml = λ p. box_owns (ghosts.dealloc_token alloc) R p value in
        (values : List Val) → ((block offset : ℕ) (heap : Val)
        → values ≡ pair (vptr block offset) heap ∷ [] → Good (layout A) heap
        → Seq K 𝓛 (‵ (box (block_ptr block offset)) ∷ ‵ (A.own_val alloc (heap ∷ [])) ∷ Γ) G)
        → Seq K 𝓛 (‵ (fsep (fields_own at alloc values) (box at)) ∷ Γ) G)
    box_out t R at alloc value values rest =
        let box : Ptr → Fml = λ p. box_owns (ghosts.dealloc_token alloc) R p value in
        let token_at_null = sem 𝓛 (ghosts.dealloc_token alloc (bare (lone R.mir)) null_ptr) in
        pair_out t (box at) at alloc values (λ heap is fits.
        in_a_block t at box (fst∗ 𝓤 (never 𝓤) token_at_null) (λ block offset is_block.
        rest block offset heap (is ∙ ap (λ p. pair (ptr_val p) heap ∷ []) is_block) fits))
