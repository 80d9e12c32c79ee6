-- A refusal owns nothing. Else the inner allocator is asked under the same lifetimes, and its result is handed on.
-- Assumes `Logic`.
use Rattle.gc_fixtures.proofs.Fields.{Bool, List, [], ◌∷◌, Err, false, refl, ap, w64, a_type, dnil}
use Rattle.gc_fixtures.proofs.Fields.{dcons, Val, vptr, inst_fn, id⊢, ftrue, flft, tables, Sq, prop}
use Rattle.gc_fixtures.proofs.Fields.{at_ret, ‵, raw, ◌⊛◌, some, later, ◌$◌, ◌∵◌, !, qed, by, move}
use Rattle.gc_fixtures.proofs.Fields.{keep, drop, use0, use1, use2, split, join, pick, fsplit}
use Rattle.gc_fixtures.proofs.Fields.{fjoin, feq_i, feq_l, await, stop, fld, addr, lit, no_more}
use Rattle.gc_fixtures.proofs.Fields.{and_then, first, branches, skips, exec, returns}
use Rattle.gc_fixtures.proofs.Fields.{returns_within, enter, alloc_all, pass_all, free_all, look_at}
use Rattle.gc_fixtures.proofs.Fields.{get, through, sets, lands_as, env, yes, owns, shr_vals}
use Rattle.gc_fixtures.proofs.Fields.{RawPtr, RefOf, bool, usize, hidden_shr, bounded, uint_vals}
use Rattle.gc_fixtures.proofs.Fields.{uint_Tells, plain, types_at, nothing, only, peeks, calls_at}
use Rattle.gc_fixtures.proofs.Fields.{Lasts, lasts, alive, framed, Stays, stay_dropped, walk_of}
use Rattle.gc_fixtures.proofs.Fields.{Goes-dropped, Al, Answer, answer_val, Answer-err}
use Rattle.gc_fixtures.proofs.Fields.{Answer-typed, Takes, token, proved, leaves, Refuser, inner_at}
use Rattle.gc_fixtures.proofs.Fields.{tally_at, lends_fields, pointer_laws, Vals}
use types.Part.{agg}
use denote.Laws.{shows}
use denote.Triple.Spec.{triple_of}
use Rattle.std.specs.Allocator.{block_if_ok}
use Rattle.std.specs.contracts.alloc.Allocator.allocate as callee
use Rattle.std.proofs.alloc.Shapes.{after}
use Rattle.std.proofs.result.Result.TheLaws.{the_row_laws as result_laws}
use Rattle.std.proofs.alloc.AllocError.TheLaws.{the_row_laws as alloc_error_laws}
use Rattle.std.specs.contracts.alloc.AllocError as alloc_error
use Rattle.gc_fixtures.specs.contracts.refusing.Tally as tally
use Rattle.gc_fixtures.specs.contracts.refusing.Tally.refuses_next as counts
use Rattle.gc_fixtures.proofs.refusing.Tally.refuses_next.Met.{met}
use Rattle.gc_fixtures.specs.contracts.refusing.RefusingAllocator.allocate as f
use Rattle.gc_fixtures.specs.contracts.refusing.RefusingAllocator.allocate.Key as key
use Rattle.gc_fixtures.proofs.refusing.RefusingAllocator.allocate.Statement.{statement}
use Rattle.gc_fixtures.proofs.refusing.RefusingAllocator.allocate.Code as code

pub allocate_spec : {M : Type 1} → statement M
allocate_spec 𝓤 𝓛 𝓜 𝓡 wired B laws g d e bound _ =
    let Z : Al = record { row = B; laws = laws; g = g; d = d; drops = e } in
    let T = f.ended B g d e in let S = f.signature B in
    let c = f.clauses B g d e 𝓛 𝓜.mem 𝓡.returns in
    let instance = bounded (a_type ∷ []) (B, tt) (dcons d (dcons e dnil)) in
    let fn = inst_fn instance code.function in
    let 𝓣 = tables 𝓤 𝓛.H 𝓜 𝓡 𝓡.env in
    let self = RefOf {n = 2} (0 ∷ []) tt (plain (λ _. Refuser B)) (λ _. tt) in
    let dropped = stay_dropped {n = 2} (plain (λ _. usize)) yes in
    let stayed : Stays S.params T.kept = (stay_dropped self yes, (dropped, (dropped, tt))) in
    let size_goes = Goes-dropped 𝓛 2 (plain (λ _. usize)) yes (λ κs x w. refl) in
    proved 𝓛 T stayed c 𝓜 𝓡
    (Goes-dropped 𝓛 2 self yes (λ κs x w. refl), (size_goes, (size_goes, tt)))
    (key.name instance) fn (code.unfolded 𝓤 𝓛.H 𝓜 𝓡 wired (B, tt) d e)
    (λ κs. (shr_vals, (uint_vals w64, (uint_vals w64, tt))))
    (λ κs. ((λ r vs facts. facts.0), (uint_Tells w64, (uint_Tells w64, tt))))
    (λ κs qs bounds a τ are.
    let W = walk_of 𝓛 T stayed c in
    let vs : Vals S κs = (shr_vals a.0, (uint_vals w64 a.1.0, (uint_vals w64 a.1.1.0, tt))) in
    let y : W.Ghost = ((κs, qs, bounds, a, vs), τ) in
    let h = a.0.now.inner in let p = inner_at B a.0.ref_ptr in let t = tally_at B a.0.ref_ptr in
    let tallied = a.0.now.tally in
    let Count = triple_of 𝓛 counts.signature (counts.spec 𝓛 𝓜.mem 𝓡.returns) in
    let shown : List Val = vptr t.0 t.1 ∷ [] in
    let x : Count.Ghost =
    (((κs.0, tt), (qs.0, tt), tt, (record { ref_ptr = t; now = tallied }, tt), (shown, tt)), tt) in
    let Take = Takes Z 𝓛 𝓜.mem 𝓡.returns in
    let lent : List Val = vptr p.0 p.1 ∷ [] in
    let z : Take.Ghost =
    ((κs, qs, bounds, (record { ref_ptr = p; now = h }, a.1), (lent, vs.1)), τ) in
    let I = callee.ended B g d e in
    let answer_laws = result_laws RawPtr alloc_error.the_row pointer_laws alloc_error_laws in
    -- the end of each way through the body: a result, and the block that comes with it
    let answers : (v : Val) (r : Answer.Denot)
    → Sq 𝓛 (‵ (Answer.own_val r (v ∷ [])) ∷ ‵ (block_if_ok (token Z h) τ r)
    ∷ raw (alive 𝓛 S κs qs) ∷ []) (prop (W.post y v)) = λ v r.
    nothing ! $ nothing ! $ fjoin ! $ nothing ! $ fjoin ! $ nothing ! $ fjoin ! $
    move ! (3 ∷ 0 ∷ 1 ∷ 2 ∷ []) $
    by ! (leaves 𝓛 T stayed c y v r (tt, (tt, (tt, tt))) (tt, (tt, (tt, tt)))) in
    qed 𝓛 ((raw (alive 𝓛 S κs qs) ⊛ ‵ (owns (types_at S.params κs) a y.0.4))
    ∷ raw ((c κs a).requires τ) ∷ []) ∵ split ! $ move ! (1 ∷ []) $ fsplit ! $ fsplit ! $ drop ! $
    use1 𝓛 (‵ (hidden_shr B κs.0 h p.0 p.1)
    ⊛ ‵ (hidden_shr tally.the_row κs.0 a.0.now.tally t.0 t.1))
    (lends_fields B 𝓛 κs.0 a.0.now a.0.ref_ptr) $ split ! $
    -- [the handle; the tally; the sizes; the tokens; the `requires`]
    feq_i ! (List Val) lent lent refl $ fjoin ! $ move ! (0 ∷ 2 ∷ []) $ fjoin ! $
    move ! (2 ∷ 1 ∷ []) $
    use1 𝓛 (‵ (flft κs.0 qs.0) ⊛ (‵ (flft κs.1.0 qs.1.0) ⊛ ‵ ftrue)) (id⊢ 𝓤 _) $ split ! $
    -- [the first token; the others; the tally; what the inner call takes; the `requires`]
    nothing ! $ move ! (3 ∷ []) $ feq_i ! (List Val) shown shown refl $ fjoin ! $ fjoin ! $
    nothing ! $ move ! (2 ∷ 0 ∷ []) $ join ! $ join ! $ nothing ! $ move ! (1 ∷ 0 ∷ []) $
    use2 𝓛 (raw (Count.pre x)) (id⊢ 𝓤 _) $ enter ! _ _ _ _ _ $ alloc_all ! (λ l. pass_all ! refl (
      (tt, tt),
      ((tt, record { fits = are.1.0.1 }), ((tt, record { fits = are.1.1.0.1 }), tt)),
    ) $
    -- self.tally.refuses_next()
    sets ! (addr ! (through ! refl (fld ! refl (stop !)))) refl (tt, tt) $
    calls_at ! (framed 𝓤 𝓛.H 𝓜 𝓣) Count
    (met 𝓤 𝓛 𝓜 𝓡 (code.calls-gc_fixtures::refusing::Tally::refuses_next 𝓡.env wired)) x
    (and_then ! (get ! refl) (no_more !)) (λ v.
    use1 𝓛 (later (some (λ (refused : Bool).
    ((‵ (flft κs.0 qs.0) ⊛ ‵ ftrue) ⊛ ‵ (bool.own_val refused (v ∷ [])))
    ⊛ some (λ (ws : Lasts counts.ended x.0.0 x.0.3). ‵ (lasts counts.ended x.0.0 x.0.3 ws)
    ⊛ ‵ ftrue)))) (id⊢ 𝓤 (Count.post x v)) $
    await ! tt $ pick ! (λ refused. split ! $ move ! (1 ∷ []) $ drop ! $ split ! $ split ! $
    move ! (1 ∷ []) $ drop ! $ move ! (1 ∷ []) $ feq_l ! (λ is_bool. join ! $
    use1 𝓛 (raw (alive 𝓛 S κs qs)) (id⊢ 𝓤 _) $ lands_as ! (ap only is_bool) refl (tt, tt) $
    -- [the tokens; what the inner call takes; the `requires`]
    first ! $ branches ! (get ! refl)
    -- return Err(AllocError)
    (λ _. sets ! (agg ! (no_more !)) refl (tt, tt) $
    sets ! (agg ! (and_then ! (lit ! tt) (and_then ! (get ! refl) (no_more !)))) refl
    (Answer-typed false 0 0) $
    returns_within ! (W.post y) refl (look_at ! 0 refl) $ free_all ! refl $ keep ! (0 ∷ []) $
    nothing ! $
    use0 𝓛 (‵ (Answer.own_val (Err (record {})) (answer_val false 0 0 ∷ []))) (Answer-err 𝓛) $
    answers (answer_val false 0 0) (Err (record {})))
    -- self.inner.allocate(size, align)
    (λ _. skips ! $ exec ! 𝓣.C 𝓣.Λ (env fn.locals l) (after 3 fn.body) (at_ret _ (W.post y)) $
    sets ! (addr ! (through ! refl (fld ! refl (stop !)))) refl (tt, tt) $
    join ! $ join ! $ use1 𝓛 (raw (Take.pre z)) (id⊢ 𝓤 _) $
    calls_at ! (framed 𝓤 𝓛.H 𝓜 𝓣) Take (bound.allocate e) z
    (and_then ! (get ! refl) (and_then ! (get ! refl) (and_then ! (get ! refl) (no_more !)))) (λ u.
    use1 𝓛 (later (some (λ (r : Answer.Denot).
    (raw (alive 𝓛 S κs qs) ⊛ ‵ (Answer.own_val r (u ∷ []))) ⊛
    some (λ (ws : Lasts I κs z.0.3). ‵ (lasts I κs z.0.3 ws) ⊛ ‵ (block_if_ok (token Z h) τ r)))))
    (id⊢ 𝓤 (Take.post z u)) $
    await ! tt $ pick ! (λ r. split ! $ move ! (1 ∷ []) $ pick !
    (λ _. split ! $ drop ! $ move ! (1 ∷ []) $ split ! $ move ! (1 ∷ []) $
    peeks ! Answer _ (shows 𝓛 Answer) r (u ∷ []) (λ is.
    lands_as ! refl refl ((answer_laws.lawful 𝓛).typed r (u ∷ []) is).0 $
    returns ! (look_at ! 0 refl) $ free_all ! refl $ move ! (0 ∷ 2 ∷ 1 ∷ []) $ answers u r))))))))))
