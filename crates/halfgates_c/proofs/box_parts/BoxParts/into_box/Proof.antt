-- `into_box` gives the pointer and the allocator to `Box::from_raw`.
use Rattle.halfgates_c.proofs.Walk.{◌≡◌, List, [], ◌∷◌, refl, sym, ap, subst, id⊢, Fml, ftrue, a_type, dcons, dnil, Val, vptr, inst_fn, fact, fact_i, no, RattleType, block_ptr, param, layout, bounded, param_laws, tables, ‵, raw, ◌⊛◌, some, later, at_ret, ◌$◌, !, move, keep, drop, split, split3, join, fjoin, pick, use1, await, rewrite, feq_i, heard, only, stop, fld, of_opd, no_more, and_then, first, blocks, exec, returns, alloc_all, pass_all, free_all, look_at, get, get_in, sets, lands_last, env, sub, whole, enter_at, takes, alive, Walk, met_by, ends, Lasts, lasts, triple_of, calls_at_last, after, fm, Good}
use contract.BorrowLft.{◌⊑◌}
use Rattle.std_alloc.specs.contracts.boxed.Box as box_type
use Rattle.std_alloc.specs.contracts.boxed.Box.from_raw as callee
use Rattle.std_alloc.proofs.boxed.Box.from_raw.Met.{met}
use Rattle.halfgates_c.specs.contracts.box_parts.BoxParts as parts_type
use Rattle.halfgates_c.proofs.Pair.{box_owns, pair, pair_fits, pair_in, box_out}
use Rattle.halfgates_c.specs.contracts.box_parts.BoxParts.into_box as spec
use Rattle.halfgates_c.proofs.box_parts.BoxParts.into_box as own

pub into_box_spec : {M : Type 1} → own.Statement.statement M
into_box_spec 𝓤 𝓛 𝓜 𝓡 wired T A T-laws A-laws ghosts allocates drops_value drops_alloc allocator
    glue_value glue_alloc =
    let 𝓣 = tables 𝓤 𝓛.H 𝓜 𝓡 𝓡.env in
    let R : RattleType = param 0 T in
    let Heap : RattleType = param 1 A in
    let heap_laws = param_laws 1 A A-laws in
    let Box : RattleType = box_type.the_row R Heap ghosts in
    let BoxParts : RattleType = parts_type.the_row R Heap ghosts in
    let methods = dcons allocates (dcons drops_value (dcons drops_alloc dnil)) in
    let instance = bounded (a_type ∷ a_type ∷ []) (T, (A, tt)) methods in
    let fn = inst_fn instance own.Code.function in
    let terms = spec.clauses T A ghosts allocates drops_value drops_alloc 𝓛 𝓜.mem 𝓡.returns in
    met_by 2 BoxParts Box no 𝓛 terms (λ x last. tt) 𝓜 𝓡 (spec.Key.name instance) fn
    (own.Code.unfolded 𝓤 𝓛.H 𝓜 𝓡 wired (T, (A, tt)) allocates drops_value drops_alloc) (λ y are.
    let lifetimes = y.0.0 in
    let shares = y.0.1 in
    let parts = y.0.3.0 in
    let alloc = parts.alloc in
    let tokens = raw (alive 𝓛 (takes 2 BoxParts Box no).signature lifetimes shares) in
    box_out Heap heap_laws ghosts ! R parts.at alloc parts.value y.0.4.0
    (λ block offset heap is fits.
    let at = block_ptr block offset in
    let given : Val = pair (vptr block offset) heap in
    let given_fits = pair_fits Heap at heap fits in
    let pointer : List Val = vptr block offset ∷ [] in
    -- what the call requires: the allocator and the pointer, and the box that lies behind it
    let call = triple_of 𝓛 (callee.signature T A ghosts allocates drops_alloc)
    (callee.spec T A ghosts allocates drops_alloc 𝓛 𝓜.mem 𝓡.returns) in
    let args : call.Ghost =
    ((lifetimes, shares, tt, (alloc, (at, tt)), (heap ∷ [], (pointer, tt))), parts.value) in
    move ! (3 ∷ []) $
    use1 𝓛
    (raw (fact 𝓤 (lifetimes.0 ⊑ T.lives)) ⊛ raw (fact 𝓤 (lifetimes.1.0 ⊑ A.lives)) ⊛ ‵ ftrue)
    (id⊢ 𝓤 _) $
    split3 ! $ move ! (1 ∷ 3 ∷ []) $ join ! $ move ! (1 ∷ 0 ∷ []) $ join ! $
    move ! (1 ∷ []) $ feq_i ! (List Val) pointer pointer refl $ fjoin ! $
    move ! (2 ∷ 0 ∷ []) $ fjoin ! $ move ! (2 ∷ 0 ∷ []) $ join ! $ join ! $
    use1 𝓛 (raw (call.pre args)) (id⊢ 𝓤 _) $
    enter_at ! _ _ _ _ given is $ alloc_all ! (λ l. pass_all ! refl (given_fits, tt) $
    -- `let BoxParts { at, alloc } = self;`
    sets ! (of_opd ! (get_in ! (fld ! refl (stop !)) (sub ! 0 refl (whole !)))) refl (tt, tt) $
    sets ! (of_opd ! (get_in ! (fld ! refl (stop !)) (sub ! 1 refl (whole !)))) refl fits $
    -- `Box::from_raw(alloc, at)`
    first ! $ blocks ! $ sets ! (of_opd ! (get ! refl)) refl fits $
    calls_at_last ! (fm 𝓛 𝓜 𝓡) call
    (met 𝓤 𝓛 𝓜 𝓡 (own.Code.calls-std_alloc::boxed::Box::from_raw 𝓡.env wired)
    T A T-laws A-laws ghosts allocates drops_alloc allocator glue_alloc)
    args (and_then ! (get ! refl) (and_then ! (get ! refl) (no_more !))) (λ returned.
    -- what it ensures: a box of this value, with this allocator
    let Ended = callee.ended T A ghosts allocates drops_alloc in
    use1 𝓛 (later (some (λ (held : Box.Denot). (tokens ⊛ ‵ (Box.own_val held (returned ∷ [])))
    ⊛ some (λ (last : Lasts Ended lifetimes args.0.3). ‵ (lasts Ended lifetimes args.0.3 last)
    ⊛ (raw (fact 𝓤 (held.value ≡ parts.value)) ⊛ raw (fact 𝓤 (held.alloc ≡ alloc)))))))
    (id⊢ 𝓤 (call.post args returned)) $
    await ! tt $ pick ! (λ held.
    split ! $ move ! (1 ∷ []) $ pick ! (λ _. split3 ! $ drop ! $
    heard ! (held.value ≡ parts.value) (λ same_value. drop ! $ split ! $ move ! (1 ∷ []) $
    -- the box is a pair: opened to learn its machine value, and closed again
    box_out Heap heap_laws ghosts ! R held.ptr held.alloc held.value (returned ∷ [])
    (λ block' offset' heap' is' fits'.
    let ptr = block_ptr block' offset' in
    let result : Box.Denot = record { ptr = ptr; alloc = held.alloc; value = held.value } in
    let result_fits : Good (layout Box) returned =
    subst (Good (layout Box)) (sym (ap only is')) (pair_fits Heap ptr heap' fits') in
    let owned : Fml = box_owns (ghosts.dealloc_token held.alloc) R ptr held.value in
    pair_in Heap heap_laws ghosts ! owned ptr held.alloc heap' $
    rewrite ! 0 (λ (values : List Val). ‵ (Box.own_val result values)) (sym is') refl $
    lands_last ! refl result_fits $
    exec ! 𝓣.C 𝓣.Λ (env fn.locals l) (after 3 fn.body)
    (at_ret _ ((Walk 2 BoxParts Box no 𝓛 terms).post y)) $
    sets ! (of_opd ! (get ! refl)) refl result_fits $
    returns ! (look_at ! 0 refl) $ free_all ! refl $ keep ! (0 ∷ 1 ∷ []) $
    ends 2 BoxParts Box no 𝓛 terms y returned result (tt, (tt, tt)) (fact_i 𝓤 _ _ same_value)))))))))
