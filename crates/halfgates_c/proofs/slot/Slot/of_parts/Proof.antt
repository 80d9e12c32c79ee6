-- `of_parts` casts the pointer and moves the allocator over. The box that the parts own is now behind the pointer.
use Rattle.halfgates_c.proofs.Walk.{[], ◌∷◌, refl, Val, vptr, fact_i, yes, block_ptr, RattleType, ◌$◌, !, keep, alloc_all, pass_all, free_all, stop, fld, of_opd, no_more, and_then, returns, look_at, get, get_in, sets, agg, sub, whole, enter_at, met_by, ends, Some, box_behind}
use Rattle.gc_kept.specs.contracts.held.Held as held_type
use Rattle.halfgates_c.specs.contracts.box_parts.BoxParts as parts_type
use Rattle.halfgates_c.specs.contracts.slot.Slot as slot_type
use Rattle.halfgates_c.proofs.Pair.{pair, pair_fits, pair_in, box_out}
use Rattle.halfgates_c.proofs.BoxSteps.{ghosts, Heap, heap_laws}
use Rattle.halfgates_c.specs.contracts.slot.Slot.of_parts as spec
use Rattle.halfgates_c.proofs.slot.Slot.of_parts as own

pub of_parts_spec : {M : Type 1} → own.Statement.statement M
of_parts_spec 𝓤 𝓛 𝓜 𝓡 wired =
    let R : RattleType = held_type.the_row in
    let BoxParts : RattleType = parts_type.the_row R Heap ghosts in
    let Slot : RattleType = slot_type.the_row in
    let terms = spec.clauses 𝓛 𝓜.mem 𝓡.returns in
    met_by 0 BoxParts Slot yes 𝓛 terms (λ x last. tt) 𝓜 𝓡 spec.Key.name own.Code.function
    (own.Code.unfolded 𝓤 𝓛.H 𝓜 𝓡 wired) (λ y are.
    let parts = y.0.3.0 in
    let alloc = parts.alloc in
    -- the parameter is a pair, of a pointer into a block and an allocator, and owns a box
    box_out Heap heap_laws ghosts ! R parts.at alloc parts.value y.0.4.0
    (λ block offset heap is fits.
    let at = block_ptr block offset in
    let made : Val = pair (vptr block offset) heap in
    let made_fits = pair_fits Heap at heap fits in
    enter_at ! _ _ _ _ made is $ alloc_all ! (λ l. pass_all ! refl (made_fits, tt) $
    -- `let BoxParts { at, alloc } = parts;`
    sets ! (of_opd ! (get_in ! (fld ! refl (stop !)) (sub ! 0 refl (whole !)))) refl (tt, tt) $
    sets ! (of_opd ! (get_in ! (fld ! refl (stop !)) (sub ! 1 refl (whole !)))) refl fits $
    -- `at as *mut u8`
    sets ! (of_opd ! (get ! refl)) refl (tt, tt) $
    -- `Slot { at, alloc }`
    sets ! (agg ! (and_then ! (get ! refl) (and_then ! (get ! refl) (no_more !)))) refl made_fits $
    pair_in Heap heap_laws ghosts ! (box_behind R alloc at (Some parts.value)) at alloc heap $
    returns ! (look_at ! 0 refl) $ free_all ! refl $ keep ! (0 ∷ 1 ∷ []) $
    let result : Slot.Denot = record { at = at; alloc = alloc; held = Some parts.value } in
    ends 0 BoxParts Slot yes 𝓛 terms y made result tt (fact_i 𝓤 _ _ refl))))
