-- `of` takes the pointer and the allocator out of the box, and moves them over.
use Rattle.halfgates_c.proofs.Walk.{◌≡◌, [], ◌∷◌, refl, ap, id⊢, Fml, ftrue, a_type, dcons, dnil, Val, vptr, inst_fn, fact, fact_i, no, RattleType, Ptr, block_ptr, param, bounded, param_laws, ‵, raw, ◌⊛◌, some, later, ◌$◌, !, move, keep, drop, split, split3, join, fjoin, pick, use1, await, rewrite, heard, only, nothing, stop, fld, of_opd, no_more, and_then, returns, alloc_all, pass_all, free_all, look_at, get, get_in, sets, lands_as, agg, sub, whole, enter_at, takes, alive, met_by, ends, fsep, RawPtr, triple_of, calls_at, fm}
use denote.Struct.Tuple.{Tuple}
use Rattle.std_alloc.specs.contracts.boxed.Box as box_type
use Rattle.std_alloc.specs.contracts.boxed.Box.into_raw_with_allocator as callee
use Rattle.std_alloc.proofs.boxed.Box.into_raw_with_allocator.Met.{met}
use Rattle.halfgates_c.specs.contracts.box_parts.BoxParts as parts_type
use Rattle.halfgates_c.proofs.Pair.{box_owns, pair, pair_fits, fields_own, pair_in, box_out}
use Rattle.halfgates_c.specs.contracts.box_parts.BoxParts.of as spec
use Rattle.halfgates_c.proofs.box_parts.BoxParts.of as own

pub of_spec : {M : Type 1} → own.Statement.statement M
of_spec 𝓤 𝓛 𝓜 𝓡 wired T A T-laws A-laws ghosts allocates drops_value drops_alloc allocator
    glue_value glue_alloc =
    let R : RattleType = param 0 T in
    let Heap : RattleType = param 1 A in
    let heap_laws = param_laws 1 A A-laws in
    let Box : RattleType = box_type.the_row R Heap ghosts in
    let BoxParts : RattleType = parts_type.the_row R Heap ghosts in
    let Raw : RattleType = Tuple (RawPtr ∷ Heap ∷ []) in
    let methods = dcons allocates (dcons drops_value (dcons drops_alloc dnil)) in
    let instance = bounded (a_type ∷ a_type ∷ []) (T, (A, tt)) methods in
    let terms = spec.clauses T A ghosts allocates drops_value drops_alloc 𝓛 𝓜.mem 𝓡.returns in
    met_by 2 Box BoxParts no 𝓛 terms (λ x last. tt) 𝓜 𝓡 (spec.Key.name instance)
    (inst_fn instance own.Code.function)
    (own.Code.unfolded 𝓤 𝓛.H 𝓜 𝓡 wired (T, (A, tt)) allocates drops_value drops_alloc) (λ y are.
    let lifetimes = y.0.0 in
    let shares = y.0.1 in
    let held = y.0.3.0 in
    let box_at : Ptr → Fml = λ p. box_owns (ghosts.dealloc_token held.alloc) R p held.value in
    let tokens = raw (alive 𝓛 (takes 2 Box BoxParts no).signature lifetimes shares) in
    -- the box is a pair: opened to learn its machine value, and closed again
    box_out Heap heap_laws ghosts ! R held.ptr held.alloc held.value y.0.4.0
    (λ block offset heap is fits.
    let ptr = block_ptr block offset in
    let given : Val = pair (vptr block offset) heap in
    let given_fits = pair_fits Heap ptr heap fits in
    let box : Box.Denot = record { ptr = ptr; alloc = held.alloc; value = held.value } in
    pair_in Heap heap_laws ghosts ! (box_at ptr) ptr held.alloc heap $
    -- what the call requires
    let call = triple_of 𝓛 (callee.signature T A ghosts allocates drops_alloc drops_value)
    (callee.spec T A ghosts allocates drops_alloc drops_value 𝓛 𝓜.mem 𝓡.returns) in
    let args : call.Ghost = ((lifetimes, shares, tt, (box, tt), (given ∷ [], tt)), tt) in
    nothing ! $ move ! (1 ∷ 0 ∷ []) $ fjoin ! $ move ! (1 ∷ 0 ∷ []) $ join ! $ join ! $
    use1 𝓛 (raw (call.pre args)) (id⊢ 𝓤 _) $
    enter_at ! _ _ _ _ given is $ alloc_all ! (λ l. pass_all ! refl (given_fits, tt) $
    -- `Box::into_raw_with_allocator(held)`
    sets ! (of_opd ! (get ! refl)) refl given_fits $
    calls_at ! (fm 𝓛 𝓜 𝓡) call
    (met 𝓤 𝓛 𝓜 𝓡 (own.Code.calls-std_alloc::boxed::Box::into_raw_with_allocator 𝓡.env wired)
    T A T-laws A-laws ghosts allocates drops_alloc drops_value allocator glue_alloc glue_value)
    args (and_then ! (get ! refl) (no_more !)) (λ returned.
    -- what it ensures: the box's allocator, and a pointer that the box lies behind
    use1 𝓛 (later (some (λ (raw_box : Raw.Denot). (tokens ⊛ ‵ (Raw.own_val raw_box (returned ∷ [])))
    ⊛ some (λ (_ : (Unit {0} × (Unit {0} × Unit {0})) × Unit {0}).
    ‵ (fsep (fsep ftrue (fsep ftrue ftrue)) ftrue)
    ⊛ (raw (fact 𝓤 (raw_box.1 ≡ held.alloc)) ⊛ ‵ (box_at raw_box.0)))))) (id⊢ 𝓤 _) $
    await ! tt $ pick ! (λ raw_box.
    split ! $ move ! (1 ∷ []) $ pick ! (λ _. split3 ! $ drop ! $
    heard ! (raw_box.1 ≡ held.alloc) (λ same_alloc.
    move ! (1 ∷ []) $ split ! $ move ! (1 ∷ []) $
    -- the tuple's allocator is the box's
    rewrite ! 0 (λ (alloc : A.Denot). ‵ (fields_own Heap raw_box.0 alloc (returned ∷ [])))
    same_alloc refl $
    move ! (0 ∷ 2 ∷ []) $ fjoin ! $
    -- with the box behind its pointer, the tuple is such a pair too
    box_out Heap heap_laws ghosts ! R raw_box.0 held.alloc held.value (returned ∷ [])
    (λ block' offset' heap' is' fits'.
    let at = block_ptr block' offset' in
    let made : Val = pair (vptr block' offset') heap' in
    let made_fits = pair_fits Heap at heap' fits' in
    -- `let (at, alloc) = ..;`
    lands_as ! (ap only is') refl made_fits $
    sets ! (of_opd ! (get_in ! (fld ! refl (stop !)) (sub ! 0 refl (whole !)))) refl (tt, tt) $
    sets ! (of_opd ! (get_in ! (fld ! refl (stop !)) (sub ! 1 refl (whole !)))) refl fits' $
    -- `BoxParts { at, alloc }`
    sets ! (of_opd ! (get ! refl)) refl fits' $
    sets ! (agg ! (and_then ! (get ! refl) (and_then ! (get ! refl) (no_more !)))) refl made_fits $
    pair_in Heap heap_laws ghosts ! (box_at at) at held.alloc heap' $
    returns ! (look_at ! 0 refl) $ free_all ! refl $ keep ! (0 ∷ 1 ∷ []) $
    let result : BoxParts.Denot = record { at = at; alloc = held.alloc; value = held.value } in
    ends 2 Box BoxParts no 𝓛 terms y made result (tt, (tt, tt)) (fact_i 𝓤 _ _ refl)))))))))
