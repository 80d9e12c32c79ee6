-- `into_parts` compares the pointer with null. Where a box lies behind it, it casts the pointer and moves the
-- allocator over.
use Rattle.halfgates_c.proofs.Walk.{[], ◌∷◌, refl, ap, ◌∙◌, lit<, Val, vptr, fact_i, yes, RattleType, Ptr, block_ptr, null_ptr, ptr_val, layout, tables, ‵, ◌$◌, !, keep, drop, use0, use1, at_ret, stop, fld, lit, of_opd, bin, no_more, and_then, first, branches, exec, returns, alloc_all, pass_all, free_all, look_at, get, get_in, sets, sets_last, env, agg, sub, whole, enter_at, Walk, met_by, ends, true, vnull, vcons, vnil, live, tests_null, after, Some-of, none_of, Good, None, Some, box_behind}
use Rattle.std.specs.contracts.option.Option as option_type
use Rattle.halfgates_c.specs.contracts.box_parts.BoxParts as parts_type
use Rattle.gc_kept.specs.contracts.held.Held as held_type
use Rattle.halfgates_c.specs.contracts.slot.Slot as slot_type
use Rattle.halfgates_c.proofs.Pair.{and_in, pair, pair_fits, pair_out, pair_in}
use Rattle.halfgates_c.proofs.BoxSteps.{ghosts, Heap, heap_laws, box_at, null_or_box}
use Rattle.halfgates_c.specs.contracts.slot.Slot.into_parts as spec
use Rattle.halfgates_c.proofs.slot.Slot.into_parts as own

pub into_parts_spec : {M : Type 1} → own.Statement.statement M
into_parts_spec 𝓤 𝓛 𝓜 𝓡 wired =
    let 𝓣 = tables 𝓤 𝓛.H 𝓜 𝓡 𝓡.env in
    let R : RattleType = held_type.the_row in
    let BoxParts : RattleType = parts_type.the_row R Heap ghosts in
    let Slot : RattleType = slot_type.the_row in
    let Result : RattleType = option_type.the_row BoxParts in
    let fn = own.Code.function in
    let terms = spec.clauses 𝓛 𝓜.mem 𝓡.returns in
    met_by 0 Slot Result yes 𝓛 terms (λ x last. tt) 𝓜 𝓡 spec.Key.name fn
    (own.Code.unfolded 𝓤 𝓛.H 𝓜 𝓡 wired) (λ y are.
    let slot = y.0.3.0 in
    let alloc = slot.alloc in
    let Post = (Walk 0 Slot Result yes 𝓛 terms).post y in
    pair_out Heap heap_laws ghosts ! (box_behind R alloc slot.at slot.held) slot.at alloc
    y.0.4.0 (λ heap is fits.
    null_or_box R alloc ! slot.at slot.held
    -- null
    (λ at_null is_none.
    let given : Val = pair vnull heap in
    let none : Val = live 0 vnil in
    let none_fits : Good (layout Result) none = (tt, (record { fits = lit< tt }, tt)) in
    enter_at ! _ _ _ _ given (is ∙ ap (λ (at : Ptr). pair (ptr_val at) heap ∷ []) at_null) $
    alloc_all ! (λ l. pass_all ! refl (pair_fits Heap null_ptr heap fits, tt) $
    -- `let Slot { at, alloc } = self;`
    sets ! (of_opd ! (get_in ! (fld ! refl (stop !)) (sub ! 0 refl (whole !)))) refl
    (tt, record { fits = lit< tt }) $
    sets ! (of_opd ! (get_in ! (fld ! refl (stop !)) (sub ! 1 refl (whole !)))) refl fits $
    -- `at.is_null()` holds
    sets ! (bin ! (get ! refl) (lit ! tt) tt) refl (tt, tt) $
    first ! $ branches ! (get ! refl) (λ _.
    -- `None`
    sets_last ! (agg ! (and_then ! (lit ! tt) (no_more !))) refl none_fits $
    exec ! 𝓣.C 𝓣.Λ (env fn.locals l) (after 4 fn.body) (at_ret _ Post) $
    sets ! (of_opd ! (get ! refl)) refl none_fits $
    drop ! $ use0 𝓛 (‵ (Result.own_val None (none ∷ []))) (none_of 𝓛 BoxParts) $
    returns ! (look_at ! 0 refl) $ free_all ! refl $ keep ! (0 ∷ 1 ∷ []) $
    ends 0 Slot Result yes 𝓛 terms y none None tt (fact_i 𝓤 _ _ is_none)) (λ wrong. absurd wrong)))
    -- a box
    (λ block offset x at_block is_some may_test.
    let at = block_ptr block offset in
    let given : Val = pair (vptr block offset) heap in
    let given_fits = pair_fits Heap at heap fits in
    let parts : BoxParts.Denot = record { at = at; alloc = alloc; value = x } in
    let some : Val = live 1 (vcons given vnil) in
    let some_fits : Good (layout Result) some =
    (and_in _ true given_fits.0 tt, (record { fits = lit< tt }, (given_fits.1, tt))) in
    enter_at ! _ _ _ _ given (is ∙ ap (λ (p : Ptr). pair (ptr_val p) heap ∷ []) at_block) $
    alloc_all ! (λ l. pass_all ! refl (given_fits, tt) $
    -- `let Slot { at, alloc } = self;`
    sets ! (of_opd ! (get_in ! (fld ! refl (stop !)) (sub ! 0 refl (whole !)))) refl (tt, tt) $
    sets ! (of_opd ! (get_in ! (fld ! refl (stop !)) (sub ! 1 refl (whole !)))) refl fits $
    -- `at.is_null()` doesn't hold
    sets ! (bin ! (get ! refl) (lit ! tt) (tests_null at may_test)) refl (tt, tt) $
    first ! $ branches ! (get ! refl) (λ wrong. absurd wrong) (λ _.
    -- `at as *mut Held`
    sets ! (of_opd ! (get ! refl)) refl (tt, tt) $
    -- `Some(BoxParts { at, alloc })`
    sets ! (agg ! (and_then ! (get ! refl) (and_then ! (get ! refl) (no_more !)))) refl given_fits $
    sets_last ! (agg ! (and_then ! (lit ! tt) (and_then ! (get ! refl) (no_more !)))) refl
    some_fits $
    exec ! 𝓣.C 𝓣.Λ (env fn.locals l) (after 4 fn.body) (at_ret _ Post) $
    sets ! (of_opd ! (get ! refl)) refl some_fits $
    pair_in Heap heap_laws ghosts ! (box_at R alloc at x) at alloc heap $
    use1 𝓛 (‵ (Result.own_val (Some parts) (some ∷ []))) (Some-of 𝓛 BoxParts parts given) $
    returns ! (look_at ! 0 refl) $ free_all ! refl $ keep ! (0 ∷ 1 ∷ []) $
    ends 0 Slot Result yes 𝓛 terms y some (Some parts) tt (fact_i 𝓤 _ _ is_some))))))
