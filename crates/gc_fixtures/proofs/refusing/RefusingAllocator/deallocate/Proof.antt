-- The inner allocator is handed what `deallocate` was handed, under the same lifetimes. Assumes
-- `Logic`.
use Rattle.gc_fixtures.proofs.Fields.{List, [], ◌∷◌, refl, ap, w64, a_type, dnil, dcons, Val, vptr}
use Rattle.gc_fixtures.proofs.Fields.{vunit, inst_fn, id⊢, ftrue, tables, ‵, raw, ◌⊛◌, some, later}
use Rattle.gc_fixtures.proofs.Fields.{◌$◌, ◌∵◌, !, qed, by, move, drop, use1, split, join, pick}
use Rattle.gc_fixtures.proofs.Fields.{fsplit, fjoin, feq_i, feq_l, await, stop, fld, addr, no_more}
use Rattle.gc_fixtures.proofs.Fields.{and_then, of_opd, unit_lit, returns, enter, alloc_all}
use Rattle.gc_fixtures.proofs.Fields.{pass_all, free_all, look_at, get, through, sets, lands_as}
use Rattle.gc_fixtures.proofs.Fields.{yes, owns, shr_vals, RawPtr, RefOf, unit, usize, bounded}
use Rattle.gc_fixtures.proofs.Fields.{uint_vals, uint_Tells, plain, types_at, nothing, only}
use Rattle.gc_fixtures.proofs.Fields.{calls_at, Lasts, lasts, alive, framed, Stays, stay_dropped}
use Rattle.gc_fixtures.proofs.Fields.{walk_of, Goes-dropped, Al, Gives, proved, leaves, hidden_shr}
use Rattle.gc_fixtures.proofs.Fields.{Refuser, inner_at, tally_at, lends_fields, Vals, RattleType}
use denote.RawPtr.{rawptr_vals, rawptr_Tells, rawptr_Lawful}
use Rattle.gc_fixtures.specs.contracts.refusing.Tally as tally
use Rattle.std.specs.contracts.alloc.Allocator.deallocate as callee
use Rattle.gc_fixtures.specs.contracts.refusing.RefusingAllocator.deallocate as f
use Rattle.gc_fixtures.specs.contracts.refusing.RefusingAllocator.deallocate.Key as key
use Rattle.gc_fixtures.proofs.refusing.RefusingAllocator.deallocate.Statement.{statement}
use Rattle.gc_fixtures.proofs.refusing.RefusingAllocator.deallocate.Code as code

pub deallocate_spec : {M : Type 1} → statement M
deallocate_spec 𝓤 𝓛 𝓜 𝓡 wired B laws g d e bound _ =
    let Z : Al = record { row = B; laws = laws; g = g; d = d; drops = e } in
    let T = f.ended B g d e in let S = f.signature B in
    let c = f.clauses B g d e 𝓛 𝓜.mem 𝓡.returns in
    let instance = bounded (a_type ∷ []) (B, tt) (dcons d (dcons e dnil)) in
    let self = RefOf {n = 2} (0 ∷ []) tt (plain (λ _. Refuser B)) (λ _. tt) in
    let dropped = λ (R : RattleType). stay_dropped {n = 2} (plain (λ _. R)) yes in
    let stayed : Stays S.params T.kept =
    (stay_dropped self yes, (dropped RawPtr, (dropped usize, (dropped usize, tt)))) in
    let size_goes = Goes-dropped 𝓛 2 (plain (λ _. usize)) yes (λ κs x w. refl) in
    let pointer_goes = Goes-dropped 𝓛 2 (plain (λ _. RawPtr)) yes (λ κs x w. refl) in
    proved 𝓛 T stayed c 𝓜 𝓡
    (Goes-dropped 𝓛 2 self yes (λ κs x w. refl), (pointer_goes, (size_goes, (size_goes, tt))))
    (key.name instance) (inst_fn instance code.function) (code.unfolded 𝓤 𝓛.H 𝓜 𝓡 wired (B, tt) d e)
    (λ κs. (shr_vals, (rawptr_vals, (uint_vals w64, (uint_vals w64, tt)))))
    (λ κs. ((λ r vs facts. facts.0), (rawptr_Tells, (uint_Tells w64, (uint_Tells w64, tt)))))
    (λ κs qs bounds a τ are.
    let vs : Vals S κs =
    (shr_vals a.0, (rawptr_vals a.1.0, (uint_vals w64 a.1.1.0, (uint_vals w64 a.1.1.1.0, tt)))) in
    let y : (walk_of 𝓛 T stayed c).Ghost = ((κs, qs, bounds, a, vs), τ) in
    let p = inner_at B a.0.ref_ptr in
    let G = Gives Z 𝓛 𝓜.mem 𝓡.returns in
    let I = callee.ended B g d e in
    let lent : List Val = vptr p.0 p.1 ∷ [] in
    let z : G.Ghost =
    ((κs, qs, bounds, (record { ref_ptr = p; now = a.0.now.inner }, a.1), (lent, vs.1)), τ) in
    let t = tally_at B a.0.ref_ptr in
    qed 𝓛 ((raw (alive 𝓛 S κs qs) ⊛ ‵ (owns (types_at S.params κs) a y.0.4))
    ∷ raw ((c κs a).requires τ) ∷ []) ∵
    split ! $ move ! (1 ∷ []) $ fsplit ! $ fsplit ! $ drop ! $
    use1 𝓛 (‵ (hidden_shr B κs.0 z.0.3.0.now p.0 p.1)
    ⊛ ‵ (hidden_shr tally.the_row κs.0 a.0.now.tally t.0 t.1))
    (lends_fields B 𝓛 κs.0 a.0.now a.0.ref_ptr) $ split ! $
    -- [the handle; the tally; the other arguments; the tokens; the `requires`]
    move ! (1 ∷ []) $ drop ! $ feq_i ! (List Val) lent lent refl $ fjoin ! $
    fjoin ! $ move ! (1 ∷ 0 ∷ []) $ join ! $ join ! $ use1 𝓛 (raw (G.pre z)) (id⊢ 𝓤 _) $
    enter ! _ _ _ _ _ $ alloc_all !
    (λ l. pass_all ! refl (
      (tt, tt),
      (
        ((rawptr_Lawful 𝓛).typed a.1.0 _ refl).0,
        ((tt, record { fits = are.1.1.0.1 }), ((tt, record { fits = are.1.1.1.0.1 }), tt)),
      ),
    ) $
    -- self.inner.deallocate(ptr, size, align)
    sets ! (addr ! (through ! refl (fld ! refl (stop !)))) refl (tt, tt) $
    calls_at ! (framed 𝓤 𝓛.H 𝓜 (tables 𝓤 𝓛.H 𝓜 𝓡 𝓡.env)) G (bound.deallocate e) z
    (and_then ! (get ! refl) (and_then ! (get ! refl)
    (and_then ! (get ! refl) (and_then ! (get ! refl) (no_more !))))) (λ v.
    use1 𝓛 (later (some (λ (r : Unit {0}).
    (raw (alive 𝓛 S κs qs) ⊛ ‵ (unit.own_val r (v ∷ []))) ⊛
    some (λ (ws : Lasts I κs z.0.3). ‵ (lasts I κs z.0.3 ws) ⊛ ‵ ftrue)))) (id⊢ 𝓤 (G.post z v)) $
    await ! tt $ pick ! (λ r. split ! $ move ! (1 ∷ []) $ drop ! $ split ! $ move ! (1 ∷ []) $
    feq_l ! (λ is_unit.
    lands_as ! (ap only is_unit) refl (tt, tt) $
    sets ! (of_opd ! (unit_lit !)) refl (tt, tt) $ returns ! (look_at ! 0 refl) $ free_all ! refl $
    feq_i ! (List Val) (vunit ∷ []) (vunit ∷ []) refl $ nothing ! $ nothing ! $ nothing ! $
    fjoin ! $ nothing ! $ fjoin ! $ nothing ! $ fjoin ! $ nothing ! $ fjoin ! $
    move ! (3 ∷ 0 ∷ 2 ∷ 1 ∷ []) $
    by ! (leaves 𝓛 T stayed c y vunit tt (tt, (tt, (tt, (tt, tt)))) (tt, (tt, (tt, (tt, tt))))))))))
