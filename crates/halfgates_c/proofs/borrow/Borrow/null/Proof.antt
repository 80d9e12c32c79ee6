-- `null` makes the struct. Nothing lies behind null.
use Rattle.halfgates_c.proofs.Walk.{◌≡◌, [], ◌∷◌, refl, lit<, a_type, inst_fn, fact, fact_i, emp, alive, RattleType, null_ptr, param, layouts, tables, ‵, raw, ◌⊛◌, ◌$◌, ◌∵◌, !, qed, by, move, keep, split, fjoin, use0, nothing, lit, no_more, and_then, returns, enter, alloc_all, pass_all, free_all, look_at, sets, agg, ftrue, Stays, walk_of, proved, leaves, None}
use Rattle.halfgates_c.specs.contracts.borrow.Borrow as borrow_type
use Rattle.halfgates_c.proofs.Alone.{word, Alone, made}
use Rattle.halfgates_c.specs.contracts.borrow.Borrow.null as spec
use Rattle.halfgates_c.proofs.borrow.Borrow.null as own

pub null_spec : {M : Type 1} → own.Statement.statement M
null_spec 𝓤 𝓛 𝓜 𝓡 wired X L =
    let H = 𝓛.H in
    let 𝓣 = tables 𝓤 H 𝓜 𝓡 𝓡.env in
    let R : RattleType = param 0 X in
    let Borrow : RattleType = borrow_type.the_row R in
    let form = borrow_type.the_type R in
    let D : RattleType = Alone form.name form.args form.types in
    let En = spec.ended X in
    let instance = layouts (a_type ∷ []) (X, tt) in
    let fn = inst_fn instance own.Code.function in
    let c = spec.clauses X 𝓛 𝓜.mem 𝓡.returns in
    let hs : Stays En.signature.params En.kept = tt in
    proved 𝓛 En hs c 𝓜 𝓡 tt (spec.Key.name instance) fn
    (own.Code.unfolded 𝓤 H 𝓜 𝓡 wired (X, tt)) (λ κs. tt) (λ κs. tt) (λ κs qs bounds a gh are.
    let y : (walk_of 𝓛 En hs c).Ghost = ((κs, qs, bounds, a, tt), gh) in
    let Post = (walk_of 𝓛 En hs c).post y in
    qed 𝓛 ((raw (alive 𝓛 En.signature κs qs) ⊛ ‵ ftrue) ∷ raw ((c κs a).requires gh) ∷ []) ∵
    split ! $ keep ! (0 ∷ 1 ∷ []) $
    enter ! 𝓣.C 𝓣.Λ fn [] Post $ alloc_all ! (λ l. pass_all ! refl tt $
    -- `Borrow { at: null_mut() }`
    sets ! (agg ! (and_then ! (lit ! tt) (no_more !))) refl (tt, (record { fits = lit< tt }, tt)) $
    move ! (1 ∷ []) $
    use0 𝓛 (‵ (D.own_val (null_ptr, tt) (word null_ptr ∷ [])))
    (made form.name form.args form.types 𝓛 null_ptr) $ fjoin ! $
    let result : Borrow.Denot = record { at = null_ptr; value = None; round = 0; parts = 0 } in
    use0 𝓛 (raw (fact 𝓤 (result.value ≡ None))) (fact_i 𝓤 (result.value ≡ None) (emp 𝓤) refl) $
    nothing ! $
    returns ! (look_at ! 0 refl) $ free_all ! refl $ keep ! (3 ∷ 0 ∷ 2 ∷ 1 ∷ []) $
    by ! (leaves 𝓛 En hs c y (word null_ptr) result tt tt)))
