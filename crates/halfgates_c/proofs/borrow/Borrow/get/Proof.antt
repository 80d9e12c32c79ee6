-- `get` reads the pointer and compares it with null. Where a value lies behind it, the value is
-- shown for as long as the reference is.
use Rattle.halfgates_c.proofs.Walk.{◌≡◌, ℕ, List, [], ◌∷◌, refl, sym, ap, ◌∙◌, lit<, Val, vptr, a_type, inst_fn, fact, fact_i, emp, RattleType, Ptr, block_ptr, null_ptr, param, param_laws, layout, layouts, tables, ‵, raw, ◌⊛◌, at_ret, ◌$◌, ◌∵◌, !, qed, by, move, keep, drop, split, join, fsplit, fjoin, feq_i, use0, use1, rewrite, nothing, stop, fld, lit, of_opd, bin, no_more, and_then, first, blocks, branches, exec, returns, enter, alloc_all, pass_all, free_all, look_at, get, sets, sets_last, env, agg, sub, whole, yes, ftrue, Fml, Body, seq, assign, place, rv_opd, copy, aggregate, int, w8, named, vcons, vnil, Lft, fsep, flft, fhide, Wp, after_seq, at_return, any_q, load, addr, through, look_in, live, RefOf, Is, shows, cell_at, hidden_shr, hide, unhide, owns, tests_null, looks, shuts, peeks, lent_at, lent_at_shr_laws, lent_out, Stays, stay_dropped, walk_of, Goes-dropped, proved, leaves, after, Good, Some-of, none_of, part_sees, types_at, plain, None, Some, borrow_shares}
use denote.Ref.{ShrRef, shr_vals, shr_Tells}
use Rattle.std.specs.contracts.option.Option as option_type
use Rattle.halfgates_c.specs.contracts.borrow.Borrow as borrow_type
use Rattle.halfgates_c.proofs.BorrowSteps.{null_or_borrow}
use Rattle.halfgates_c.proofs.Alone.{word, Alone, told, opened}
use Rattle.halfgates_c.specs.contracts.borrow.Borrow.get as spec
use Rattle.halfgates_c.proofs.borrow.Borrow.get as own

-- the rest of the branch that found a value
abbrev wraps : Body
wraps = seq (assign (place 6 []) (rv_opd (copy (place 7 []))))
    (assign (place 5 []) (aggregate (int w8 1 ∷ copy (place 6 []) ∷ [])))

pub get_spec : {M : Type 1} → own.Statement.statement M
get_spec 𝓤 𝓛 𝓜 𝓡 wired X L =
    let H = 𝓛.H in
    let 𝓣 = tables 𝓤 H 𝓜 𝓡 𝓡.env in
    let R : RattleType = param 0 X in
    let laws = (param_laws 0 X L).shr_laws in
    let Borrow : RattleType = borrow_type.the_row R in
    let form = borrow_type.the_type R in
    let D : RattleType = Alone form.name form.args form.types in
    let told_at = told form.name form.args form.types in
    let opens = opened form.name form.args form.types 𝓛 in
    let En = spec.ended X in
    let instance = layouts (a_type ∷ []) (X, tt) in
    let fn = inst_fn instance own.Code.function in
    let c = spec.clauses X 𝓛 𝓜.mem 𝓡.returns in
    let self = RefOf (0 ∷ []) tt (plain (λ _. Borrow)) (λ _. tt) in
    let hs : Stays En.signature.params En.kept = (stay_dropped self yes, tt) in
    proved 𝓛 En hs c 𝓜 𝓡 (Goes-dropped 𝓛 2 self yes (λ κs x f. refl), tt) (spec.Key.name instance)
    fn (own.Code.unfolded 𝓤 H 𝓜 𝓡 wired (X, tt)) (λ κs. (shr_vals, tt))
    (λ κs. (shr_Tells (named 0) κs.0 Borrow, tt)) (λ κs qs bounds a gh are.
    let b : ℕ = a.0.ref_ptr.0 in
    let o : ℕ = a.0.ref_ptr.1 in
    let κ : Lft = κs.0 in
    let borrow : Borrow.Denot = a.0.now in
    let p : Ptr = borrow.at in
    let others : Fml = fsep (flft κs.1.0 qs.1.0) ftrue in
    let y : (walk_of 𝓛 En hs c).Ghost = ((κs, qs, bounds, a, (vptr b o ∷ [], tt)), gh) in
    let Post = (walk_of 𝓛 En hs c).post y in
    let Ref : RattleType = ShrRef (named 0) κ R in
    let Out : RattleType = option_type.the_row Ref in
    qed 𝓛 (((‵ (flft κ qs.0) ⊛ ‵ others) ⊛ ‵ (owns (types_at En.signature.params κs) a y.0.4))
    ∷ raw ((c κs a).requires gh) ∷ []) ∵
    split ! $ split ! $ move ! (2 ∷ []) $ fsplit ! $ fsplit ! $ keep ! (1 ∷ 3 ∷ 4 ∷ []) $
    enter ! 𝓣.C 𝓣.Λ fn (vptr b o ∷ []) Post $ alloc_all ! (λ l. pass_all ! refl ((tt, tt), tt) $
    let Ev = env fn.locals l in
    -- what the reference holds: one to the pointer, and what lies behind that
    use1 𝓛 (‵ (hidden_shr D κ (p, tt) b o) ⊛ ‵ (fhide (borrow_shares R p borrow.value borrow.round κ)))
    (lent_out 𝓛 (borrow_type.struct R) (borrow_type.the_codes X.Denot R.coded) (borrow_type.the_heap R)
    (borrow_type.the_lent R) κ borrow b o) $
    split ! $ move ! (1 ∷ []) $ unhide ! $ null_or_borrow R ! κ p borrow.value borrow.round
    -- null
    (λ at_null is_none.
    looks ! tt D opens (p, tt) b o (λ q vs. move ! (1 ∷ []) $
    peeks ! D (Is D) (shows 𝓛 D) (p, tt) vs (λ so.
    let is : vs ≡ word null_ptr ∷ [] =
    told_at p vs so ∙ ap (λ (r : Ptr). word r ∷ []) at_null in
    rewrite ! 1 (λ (ws : List Val). ‵ (cell_at q D.mir ws b o)) is refl $
    sets ! (of_opd ! (load ! (through ! refl (fld ! refl (stop !)))
    (look_in ! 1 (sub ! 0 refl (whole !))))) refl (tt, record { fits = lit< tt }) $
    rewrite ! 1 (λ (ws : List Val). ‵ (cell_at q D.mir ws b o)) (sym is) refl $
    move ! (1 ∷ 0 ∷ 2 ∷ []) $ shuts ! tt D q (p, tt) vs b o $
    sets ! (of_opd ! (get ! refl)) refl (tt, record { fits = lit< tt }) $
    sets ! (bin ! (get ! refl) (lit ! tt) tt) refl (tt, tt) $
    first ! $ branches ! (get ! refl) (λ _.
    let none_fits : Good (layout Out) (live 0 vnil) = (tt, (record { fits = lit< tt }, tt)) in
    sets_last ! (agg ! (and_then ! (lit ! tt) (no_more !))) refl none_fits $
    exec ! 𝓣.C 𝓣.Λ Ev (after 4 fn.body) (at_ret Ev Post) $
    sets ! (of_opd ! (get ! refl)) refl none_fits $
    move ! (0 ∷ 2 ∷ []) $ join ! $
    use0 𝓛 (‵ (Out.own_val None (live 0 vnil ∷ []))) (none_of 𝓛 Ref) $
    use0 𝓛 (raw (fact 𝓤 (borrow.value ≡ None))) (fact_i 𝓤 (borrow.value ≡ None) (emp 𝓤) is_none) $
    nothing ! $ nothing ! $ fjoin ! $
    returns ! (look_at ! 0 refl) $ free_all ! refl $ keep ! (3 ∷ 0 ∷ 2 ∷ 1 ∷ []) $
    by ! (leaves 𝓛 En hs c y (live 0 vnil) None (tt, tt) (tt, tt))) (λ wrong. absurd wrong))))
    -- a value
    (λ block offset x at_block is_some may.
    let at : Ptr = block_ptr block offset in
    let there : Val = vptr block offset in
    use1 𝓛 (‵ (lent_at R at x κ))
    (part_sees (lent_at R at x) (lent_at_shr_laws R laws at x) 𝓛 borrow.round κ) $
    fsplit ! $ drop ! $ hide ! $ move ! (1 ∷ 2 ∷ []) $
    looks ! tt D opens (p, tt) b o (λ q vs. move ! (1 ∷ []) $
    peeks ! D (Is D) (shows 𝓛 D) (p, tt) vs (λ so.
    let is : vs ≡ word at ∷ [] =
    told_at p vs so ∙ ap (λ (r : Ptr). word r ∷ []) at_block in
    rewrite ! 1 (λ (ws : List Val). ‵ (cell_at q D.mir ws b o)) is refl $
    sets ! (of_opd ! (load ! (through ! refl (fld ! refl (stop !)))
    (look_in ! 1 (sub ! 0 refl (whole !))))) refl (tt, tt) $
    rewrite ! 1 (λ (ws : List Val). ‵ (cell_at q D.mir ws b o)) (sym is) refl $
    move ! (1 ∷ 0 ∷ 2 ∷ []) $ shuts ! tt D q (p, tt) vs b o $
    sets ! (of_opd ! (get ! refl)) refl (tt, tt) $
    sets ! (bin ! (get ! refl) (lit ! tt) (tests_null at may)) refl (tt, tt) $
    first ! $ branches ! (get ! refl) (λ wrong. absurd wrong) (λ _.
    let Then = any_q (after_seq 𝓤 H
    (Wp 𝓤 H 𝓣.C 𝓣.Λ Ev (after 4 fn.body) (at_return 𝓤 H Ev Post)) (at_return 𝓤 H Ev Post)) in
    let it : Ref.Denot = record { ref_ptr = (block, offset); now = x } in
    let some : Val = live 1 (vcons there vnil) in
    let some_fits : Good (layout Out) some = (tt, (record { fits = lit< tt }, (tt, tt))) in
    first ! $ blocks ! $ sets_last ! (addr ! (through ! refl (stop !))) refl (tt, tt) $
    exec ! 𝓣.C 𝓣.Λ Ev wraps Then $ sets ! (of_opd ! (get ! refl)) refl (tt, tt) $
    sets_last ! (agg ! (and_then ! (lit ! tt) (and_then ! (get ! refl) (no_more !)))) refl
    some_fits $
    exec ! 𝓣.C 𝓣.Λ Ev (after 4 fn.body) (at_ret Ev Post) $
    sets ! (of_opd ! (get ! refl)) refl some_fits $
    move ! (0 ∷ 3 ∷ []) $ join ! $
    move ! (2 ∷ []) $ feq_i ! (List Val) (there ∷ []) (there ∷ []) refl $ fjoin ! $
    use1 𝓛 (‵ (Out.own_val (Some it) (some ∷ []))) (Some-of 𝓛 Ref it there) $
    use0 𝓛 (raw (fact 𝓤 (borrow.value ≡ Some x))) (fact_i 𝓤 (borrow.value ≡ Some x) (emp 𝓤) is_some) $
    nothing ! $ nothing ! $ fjoin ! $
    returns ! (look_at ! 0 refl) $ free_all ! refl $ keep ! (3 ∷ 0 ∷ 2 ∷ 1 ∷ []) $
    by ! (leaves 𝓛 En hs c y some (Some it) (tt, tt) (tt, tt))))))))
