-- The struct of one pointer, as the machine holds it. `Borrow` is such a struct.
use Rattle.halfgates_c.proofs.Walk.{◌≡◌, List, [], ◌∷◌, ◌++◌, refl, ap, ◌∙◌, Val, Ura, Logic, sem, emp, RattleType, Ptr, block_ptr, null_ptr, ptr_val, lit<, Sym, Lifetime, ty_ptr, ty_struct, tcons, tnil, vstruct, vcons, vnil, of_list, ent, Is, Opens, RawPtr, RawPtr-copy, Shape, Struct, Good}
use denote.Copied.{Struct-Copied}
use denote.Shadow.{makes_shadow}

-- the struct's machine value
abbrev pub word : Ptr → Val
word p = vstruct (vcons (ptr_val p) vnil)

module _ (name : Sym) (args : List Lifetime) (types : List RattleType) where
  abbrev form : Shape
  form = record { name = name; args = args; types = types; fields = RawPtr ∷ [] }

  abbrev pub Alone : RattleType
  Alone = Struct form

  pub told : (p : Ptr) (values : List Val) → Is Alone (p, tt) values → values ≡ word p ∷ []
  told p values is =
      is.1.0 ∙ ap (λ (parts : List Val). vstruct (of_list (parts ++ [])) ∷ []) is.1.1.0

  pub opened : {M : Type 1} {𝓤 : Ura M} (𝓛 : Logic 𝓤) → Opens 𝓛 Alone
  opened {M} {𝓤 = 𝓤} 𝓛 = (Struct-Copied 𝓛 form (refl, tt) (RawPtr-copy.copied M 𝓤 𝓛, tt)).opens

  -- what such a struct owns is nothing but which value it is
  pub made : {M : Type 1} {𝓤 : Ura M} (𝓛 : Logic 𝓤) (p : Ptr)
      → ent 𝓤 (emp 𝓤) (sem 𝓛 (Alone.own_val (p, tt) (word p ∷ [])))
  made 𝓛 p = makes_shadow 𝓛 (Alone.own_val (p, tt) (word p ∷ [])) (λ vss. (tt, (tt, tt)))
      ((ptr_val p ∷ [], tt), (refl, (refl, tt)))

-- a pointer makes a value of the struct's type
pub word_fits : (name : Sym) (p : Ptr) → Good (ty_struct name (tcons ty_ptr tnil)) (word p)
word_fits name (block_ptr b o) = (tt, (tt, tt))
word_fits name null_ptr = (tt, (record { fits = lit< tt }, tt))
