-- The names of the kit that the proofs by hand cite, and the steps that they share.
pub use Rattle.std.proofs.Common.{◌≡◌, ℕ, List, [], ◌∷◌, ◌++◌, refl, sym, ap, ◌∙◌, subst, lit<}
pub use lib.Dec.{T}
pub use seplogic.Ra.Ura.{Ura}
pub use base.Logic.{SProp, ent, emp, id⊢, never, fst∗, via, guard_i, snd∗, never_e}
pub use base.Fml.{Fml, ftrue, fex, fsep, ffalse, Lft, flft, fhide}
pub use mir.Syntax.{Fn, Callee, a_type, dcons, dnil, impl, tnil, Sym, Lifetime, ty_ptr, ty_struct, tcons, Ty, local, value_local, seq, assign, place, field, copy, rv_opd, aggregate, return, Body, int, w8, named}
pub use mir.Val.{Val, vptr, vstruct, vcons, vnil, of_list, has_ty, WT, vnull}
pub use mir.MapTy.{inst_fn}
pub use prog.Model.{Model}
pub use prog.Wp.{Calls, Loops, WpFn, Closed, Wp, after_seq, at_return}
pub use types.Logic.{Logic, sem}
pub use types.Kit.{Item, Goal, Seq, Sq, Step, step, prop, ‵, raw, given, ◌⊛◌, some, later, ◌$◌, !, by, qed, ◌∵◌, runs, allocs, params', at_ret, move, keep, drop, split, split3, join, fsplit, fjoin, pick, fpick, fpack, feq_i, feq_l, use0, use1, learn, await, rewrite, any_q}
pub use types.Run.{enter, stop, fld, lit, of_opd, bin, no_more, and_then, first, branches, blocks, exec, returns, load, addr}
pub use types.ByLocal.{alloc_all, pass_all, free_all, look_at, get, get_in, sets, sets_last, env, lands_as, lands_last, through}
pub use types.Part.{agg, sub, whole, look_in}
pub use contract.Monad.{fact, fact_i, fact_use}
pub use contract.Running.{Running, tables}
pub use denote.Exit.{Kept, yes, no, Last, left}
pub use denote.RattleType.{RattleType, Valss, RowLaws, owns}
pub use denote.RawPtr.{Ptr, block_ptr, null_ptr, ptr_val, in_a_block, lies_at, Testable, tests_null}
pub use denote.Steps.{nothing, only, heard, facts, looks, shuts, peeks}
pub use denote.Param.{param, layout, layouts, bounded}
pub use denote.Param.Laws.{Laws, param_laws}
pub use denote.Param.Mute.{blank}
pub use denote.Signature.{types_at, plain}
pub use denote.Triple.Entry.{alive}
pub use mathlib.Core.Bool.{true, ◌&&◌}
pub use mir.Raw.{raw as bare}
pub use denote.Builtin.{RawPtr, RefOf}
pub use denote.Memory.{lone, cell_at, hidden_shr}
pub use denote.Struct.Struct.{Shape, within, Struct}
pub use Rattle.core.proofs.alloc.Calls.{Goes-blank, Al, handle_tells}
pub use Rattle.std.specs.declared.option.Option.{Option}
pub use Rattle.std.specs.declared.option.Option.TheVariants.{None, Some}
pub use denote.Struct.Lending.{lent_at, lent_at_shr_laws, Lends, Lends-both, Lends-false, Lends-nothing, Lends-said, of_Lends, lent_out}
pub use Rattle.left_right.proofs.PartSteps.{lent_laws, Lends-part, part_sees}
pub use denote.Laws.{Are, Ises, Is, shows}
pub use denote.Opens.{Opens, hide, unhide}
pub use denote.Struct.Laws.{RawPtr-copy}
pub use Rattle.core.proofs.cell.Inside.{Good}
pub use denote.Triple.Clauses.{Ended, at_exit, Clauses, closing, Lasts, lasts}
pub use denote.Triple.Spec.{Meets, triple_of}
pub use types.Match.{live}
pub use denote.Triple.Walked.{Stays, stay_dropped, walk_of, Goes-dropped}
pub use Rattle.std.proofs.raw_atomic.Walks.{proved_at, proved, leaves}
pub use Rattle.core.proofs.alloc.Shapes.{after}
pub use Rattle.core.proofs.option.Made.{Some-of, none_of}
pub use denote.Triple.Call.{calls_at_last, calls_at}
pub use Rattle.core.proofs.atomic.Steps.{fm}
pub use Rattle.halfgates_c.specs.Behind.{borrow_owns, borrow_shares, may_test, box_behind}
unfoldable pub use Rattle.halfgates_c.specs.Borrowing.{handle_of}
pub use Rattle.halfgates_c.specs.declared.handle.Handle.{Handle}
use denote.Triple.Statement.{Contract}

module _ {M : Type 1} {𝓤 : Ura M} {𝓛 : Logic 𝓤} {K : Type 0} {Γ : List (Item 𝓤)} where
  -- no case is left where what is known can't be
  pub impossible : {G : Goal 𝓤 𝓛.H} → K → Seq K 𝓛 (‵ ffalse ∷ Γ) G
  impossible t = use1 𝓛 (given ⊥ (‵ ftrue)) (never_e 𝓤 _) $ learn t (λ none. absurd none)

  -- enters a function of one parameter, whose machine value is known
  pub enter_at : K → (C : Calls 𝓤 𝓛.H) (Λ : Loops 𝓤 𝓛.H) (fn : Fn) (Post : Val → SProp 𝓤)
      → (value : Val) {values : List Val} → values ≡ value ∷ []
      → Step K 𝓛 Γ
      (allocs fn.locals (λ E. params' E (value ∷ []) (runs C Λ E fn.body (at_ret E Post))))
      Γ (prop (WpFn 𝓤 𝓛.H C Λ fn (values ++ []) Post))
  enter_at t C Λ fn Post value is = step (λ rest.
      subst (λ (args : List Val). Seq K 𝓛 Γ (prop (WpFn 𝓤 𝓛.H C Λ fn (args ++ []) Post))) (sym is)
      (enter t C Λ fn (value ∷ []) Post $ rest))

-- A function from X to Y, of which nothing is kept of the parameter.
module _ (n : ℕ) (X Y : RattleType) (kept : Kept) where
  abbrev pub takes : Ended
  takes = record {
    signature = record {
      lifetimes = n;
      outlives = [];
      params = plain (λ κs. X) ∷ [];
      result = plain (λ κs. Y);
    };
    kept = (kept, tt);
  }

  module _ {M : Type 1} {𝓤 : Ura M} (𝓛 : Logic 𝓤) (terms : Clauses 𝓤 takes) where
    abbrev pub stays : Stays takes.signature.params takes.kept
    stays = (stay_dropped (plain (λ κs. X)) kept, tt)

    abbrev pub Walk : Contract 𝓤
    Walk = walk_of 𝓛 takes stays terms

    -- It meets its contract, by a walk from what it is given. At the end nothing is left to say of
    -- the parameter.
    pub met_by : ((x : X.Denot) (last : Last (X.exit kept) x)
        → T (blank (left (X.exit kept) x last)))
        → (𝓜 : Model 𝓤 𝓛.H) (𝓡 : Running 𝓤 𝓛.H 𝓜) (self : Callee) (fn : Fn)
        → (let 𝓣 = tables 𝓤 𝓛.H 𝓜 𝓡 𝓡.env in Closed 𝓤 𝓛.H 𝓣.C 𝓣.Λ self fn
        → ((y : Walk.Ghost) → Are (X ∷ []) (Ises (X ∷ [])) y.0.3 y.0.4
        → Sq 𝓛 (‵ (X.own_val y.0.3.0 y.0.4.0) ∷ raw (alive 𝓛 takes.signature y.0.0 y.0.1)
        ∷ raw ((terms y.0.0 y.0.3).requires y.1) ∷ [])
        (prop (WpFn 𝓤 𝓛.H 𝓣.C 𝓣.Λ fn (y.0.4.0 ++ []) (Walk.post y))))
        → Meets 𝓛 takes.signature (𝓣.C self) (closing 𝓛 takes terms))
    met_by silent 𝓜 𝓡 self fn closed walk =
        proved_at 𝓛 takes stays terms 𝓜 𝓡 (Goes-blank 𝓛 n (plain (λ κs. X)) kept (λ κs. silent), tt)
        self fn closed (λ y are.
        let tokens = raw (alive 𝓛 takes.signature y.0.0 y.0.1) in
        let params = ‵ (owns (types_at takes.signature.params y.0.0) y.0.3 y.0.4) in
        qed 𝓛 ((tokens ⊛ params) ∷ raw ((terms y.0.0 y.0.3).requires y.1) ∷ []) ∵
        split ! $ move ! (1 ∷ []) $ fsplit ! $ keep ! (0 ∷ 2 ∷ 3 ∷ []) $ walk y are)

    -- The end of such a walk: what the result owns, and the tokens. The contract holds.
    pub ends : (y : Walk.Ghost) (value : Val) (result : Y.Denot) (last : Last (X.exit kept) y.0.3.0)
        → (let end = at_exit takes y.0.0 y.0.3 (last, tt) in
        ent 𝓤 (emp 𝓤) ((terms y.0.0 y.0.3).ensures y.1 result end))
        → Sq 𝓛 (‵ (Y.own_val result (value ∷ [])) ∷ raw (alive 𝓛 takes.signature y.0.0 y.0.1) ∷ [])
        (prop (Walk.post y value))
    ends y value result last holds =
        let end = at_exit takes y.0.0 y.0.3 (last, tt) in
        use0 𝓛 (raw ((terms y.0.0 y.0.3).ensures y.1 result end)) holds $
        nothing ! $ nothing ! $ fjoin ! $ keep ! (3 ∷ 0 ∷ 2 ∷ 1 ∷ []) $
        by ! (leaves 𝓛 takes stays terms y value result (last, tt) (tt, tt))
