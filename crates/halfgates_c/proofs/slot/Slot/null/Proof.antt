-- `null` makes the struct of null and the allocator. Nothing lies behind null.
use Rattle.halfgates_c.proofs.Walk.{[], ◌∷◌, refl, Val, fact_i, yes, null_ptr, RattleType, dnil, ◌$◌, !, keep, alloc_all, pass_all, free_all, nothing, lit, no_more, and_then, returns, look_at, get, sets, agg, enter_at, met_by, ends, impl, tnil, vnull, Al, handle_tells, None, box_behind}
use Rattle.gc_kept.specs.contracts.held.Held as held_type
use Rattle.halfgates_c.specs.contracts.slot.Slot as slot_type
use Rattle.halfgates_c.proofs.Pair.{pair, pair_fits, pair_in}
use Rattle.halfgates_c.proofs.BoxSteps.{ghosts, Heap, heap_laws}
use Rattle.halfgates_c.specs.contracts.slot.Slot.null as spec
use Rattle.halfgates_c.proofs.slot.Slot.null as own

pub null_spec : {M : Type 1} → own.Statement.statement M
null_spec 𝓤 𝓛 𝓜 𝓡 wired =
    let R : RattleType = held_type.the_row in
    let Slot : RattleType = slot_type.the_row in
    let terms = spec.clauses 𝓛 𝓜.mem 𝓡.returns in
    let drops = impl [] tnil dnil in
    let allocator : Al = record { row = Heap; laws = heap_laws; g = ghosts; d = drops; drops = drops } in
    met_by 0 Heap Slot yes 𝓛 terms (λ x last. tt) 𝓜 𝓡 spec.Key.name own.Code.function
    (own.Code.unfolded 𝓤 𝓛.H 𝓜 𝓡 wired) (λ y are.
    let alloc = y.0.3.0 in
    -- the parameter is one value, of the allocator's type
    handle_tells allocator ! alloc y.0.4.0 (λ heap is fits.
    let made : Val = pair vnull heap in
    let made_fits = pair_fits Heap null_ptr heap fits in
    enter_at ! _ _ _ _ heap is $ alloc_all ! (λ l. pass_all ! refl (fits, tt) $
    -- `Slot { at: null_mut(), alloc }`
    sets ! (agg ! (and_then ! (lit ! tt) (and_then ! (get ! refl) (no_more !)))) refl made_fits $
    nothing ! $
    pair_in Heap heap_laws ghosts ! (box_behind R alloc null_ptr None) null_ptr alloc heap $
    returns ! (look_at ! 0 refl) $ free_all ! refl $ keep ! (0 ∷ 1 ∷ []) $
    let result : Slot.Denot = record { at = null_ptr; alloc = alloc; held = None } in
    ends 0 Heap Slot yes 𝓛 terms y made result tt (fact_i 𝓤 _ _ refl))))
