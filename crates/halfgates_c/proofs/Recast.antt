-- The walk of a function that makes a struct of a pointer from another such struct.
use Rattle.halfgates_c.proofs.Walk.{◌≡◌, List, [], ◌∷◌, refl, sym, subst, T, Ura, emp, Fml, ftrue, Fn, Callee, Val, Model, Closed, Logic, ‵, ◌$◌, !, keep, rewrite, fact, fact_i, fsplit, fjoin, use0, stop, fld, of_opd, no_more, and_then, returns, alloc_all, pass_all, free_all, look_at, get, get_in, sets, agg, sub, whole, Running, tables, yes, Last, left, RattleType, Ptr, enter_at, takes, met_by, ends, fsep, Sym, Ty, ty_ptr, ty_struct, tcons, tnil, local, value_local, seq, assign, place, field, copy, rv_opd, aggregate, return, Is, shows, facts, Clauses, closing, Meets, blank}
use Rattle.halfgates_c.proofs.Alone.{word, word_fits, Alone, told, made}
use Rattle.halfgates_c.proofs.Pair.{pointer_fits}

-- The field of such a struct owns nothing but which value it is.
abbrev pub word_of : Ptr → List Val → Fml
word_of at values = (Alone [] [] []).own_val (at, tt) values

-- Such a function, from X to Y: the pointer of a value of X, what the value owns beside the pointer, the value of Y
-- that is made of it, and what the contract says of the two.
pub record Recast (X Y : RattleType) : Type 1 where
  pub at : X.Denot → Ptr
  pub owned : X.Denot → Fml
  pub made : X.Denot → Y.Denot
  pub says : X.Denot → Y.Denot → Type 0
  pub holds : (x : X.Denot) → says x (made x)
  pub given_owns : (x : X.Denot) (values : List Val)
      → X.own_val x values ≡ fsep (word_of (at x) values) (owned x)
  pub made_owns : (x : X.Denot) (values : List Val)
      → Y.own_val (made x) values ≡ fsep (word_of (at x) values) (owned x)
  -- X has no reference, so nothing is left to say of it at the end
  pub last : (x : X.Denot) → Last (X.exit yes) x
  pub silent : (x : X.Denot) (end : Last (X.exit yes) x) → left (X.exit yes) x end ≡ ftrue

abbrev struct_of : Sym → Ty
struct_of name = ty_struct name (tcons ty_ptr tnil)

-- The function's code. It casts the pointer, which leaves the machine value as it is.
abbrev recast : (given made : Sym) → Fn
recast given made = record {
  lifetimes = 0;
  outlives = [];
  ty_params = [];
  givens = 0;
  params = 1;
  locals = local (struct_of made) value_local ∷ local (struct_of given) value_local
      ∷ local ty_ptr value_local ∷ local ty_ptr value_local ∷ [];
  body = seq (assign (place 2 []) (rv_opd (copy (place 1 (field 0 ∷ [])))))
      (seq (assign (place 3 []) (rv_opd (copy (place 2 []))))
      (seq (assign (place 0 []) (aggregate (copy (place 3 []) ∷ []))) return));
}

module _ (X Y : RattleType) (r : Recast X Y) where
  abbrev terms : {M : Type 1} (𝓤 : Ura M) → Clauses 𝓤 (takes 0 X Y yes)
  terms 𝓤 κs args = record {
    ghost = Unit {0};
    requires = λ g. emp 𝓤;
    ensures = λ g result end. fact 𝓤 (r.says args.0 result);
  }

  -- Such a function meets its contract.
  pub recast_word : {M : Type 1} (𝓤 : Ura M) (𝓛 : Logic 𝓤) (𝓜 : Model 𝓤 𝓛.H) (𝓡 : Running 𝓤 𝓛.H 𝓜)
      → (self : Callee) (given made : Sym)
      → (let 𝓣 = tables 𝓤 𝓛.H 𝓜 𝓡 𝓡.env in Closed 𝓤 𝓛.H 𝓣.C 𝓣.Λ self (recast given made))
      → (let 𝓣 = tables 𝓤 𝓛.H 𝓜 𝓡 𝓡.env in
      Meets 𝓛 (takes 0 X Y yes).signature (𝓣.C self) (closing 𝓛 (takes 0 X Y yes) (terms 𝓤)))
  recast_word 𝓤 𝓛 𝓜 𝓡 self given made_name closed =
      let D : RattleType = Alone [] [] [] in
      met_by 0 X Y yes 𝓛 (terms 𝓤) (λ x end. subst (λ F. T (blank F)) (sym (r.silent x end)) tt)
      𝓜 𝓡 self (recast given made_name) closed (λ y are.
      let x : X.Denot = y.0.3.0 in
      let at : Ptr = r.at x in
      let value : Val = word at in
      rewrite ! 0 (λ (F : Fml). ‵ F) (r.given_owns x y.0.4.0) refl $
      fsplit ! $ facts ! D (Is D) (shows 𝓛 D) (at, tt) y.0.4.0 (λ so.
      enter_at ! _ _ _ _ value (told [] [] [] at y.0.4.0 so) $
      alloc_all ! (λ l. pass_all ! refl (word_fits given at, tt) $
      -- the pointer, and the pointer once more
      sets ! (of_opd ! (get_in ! (fld ! refl (stop !)) (sub ! 0 refl (whole !)))) refl
      (pointer_fits at) $
      sets ! (of_opd ! (get ! refl)) refl (pointer_fits at) $
      -- the new struct
      sets ! (agg ! (and_then ! (get ! refl) (no_more !))) refl (word_fits made_name at) $
      use0 𝓛 (‵ (D.own_val (at, tt) (value ∷ []))) (made [] [] [] 𝓛 at) $ fjoin ! $
      returns ! (look_at ! 0 refl) $ free_all ! refl $ keep ! (0 ∷ 1 ∷ []) $
      rewrite ! 0 (λ (F : Fml). ‵ F) (sym (r.made_owns x (value ∷ []))) refl $
      ends 0 X Y yes 𝓛 (terms 𝓤) y value (r.made x) (r.last x) (fact_i 𝓤 _ _ (r.holds x)))))
