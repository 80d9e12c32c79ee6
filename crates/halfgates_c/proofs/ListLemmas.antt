-- Lists of handles, and the things that they hold.
use Rattle.halfgates_c.proofs.Names.{◌≡◌, ◌⊎◌, ℕ, ◌+◌, ◌<◌, ℤ, pos, inl, inr, Option, Some, List, [], ◌∷◌, ◌++◌, length, map, take, drop, get_or, refl, ap, drop_more, map-append, take-append-drop, Held, Garbling, Job, OfHandles, OfGarbling, OfJob, handle_of, arith}
use Rattle.halfgates_c.specs.declared.borrow.Borrow.{Borrow}

-- What is borrowed is what the handles hold.
pub held_of : (borrows : List (Borrow Held))
    → map (λ h. h.held) (map handle_of borrows) ≡ map (λ b. b.value) borrows
unfolding handle_of
held_of [] = refl
held_of (borrow ∷ borrows) = ap (λ rest. borrow.value ∷ rest) (held_of borrows)

-- What is said of one handle: of a thing that it holds all that is true of the thing, and what follows from that.
pub record IsSaid {X : Type 0} (OfOne : Option Held → (code : ℤ) → (X → Type 0) → Type 0)
    (held_in : X → Held) : Type 1 where
  pub of_it : (it : X) (code : ℤ) (P : X → Type 0) → P it → OfOne (Some (held_in it)) code P
  pub so_too : (held : Option Held) (code : ℤ) (P Q : X → Type 0) → ((it : X) → P it → Q it)
      → OfOne held code P → OfOne held code Q

pub garbling_is : IsSaid OfGarbling Garbling
garbling_is = record {
  of_it = λ it code P so. so;
  so_too = λ held code P Q so said. grind (arith, so, said);
}

pub job_is : IsSaid OfJob Job
job_is = record {
  of_it = λ it code P so. so;
  so_too = λ held code P Q so said. grind (arith, so, said);
}

module _ {X : Type 0} (OfOne : Option Held → (code : ℤ) → (X → Type 0) → Type 0)
    (held_in : X → Held) (is : IsSaid OfOne held_in) where
  -- A handle that holds no such thing gives the code of the list, after some that do.
  first_without : (things : List X) (held : Option Held) (others : List (Option Held)) (code : ℤ)
      → OfOne held code (λ it. ⊥)
      → OfHandles OfOne (map (λ it. Some (held_in it)) things ++ held ∷ others) code (λ its. ⊥)
  first_without [] held others code lacks = is.so_too held code _ _ (λ it. absurd) lacks
  first_without (it ∷ things) held others code lacks =
      is.of_it it code _ (first_without things held others code lacks)

  -- It does so whatever a call says of such things, as does missing memory.
  each_of : (held : List (Option Held)) (code : ℤ) (P : List X → Type 0)
      → OfHandles OfOne held code (λ its. ⊥) → OfHandles OfOne held code P
  each_of [] code P lacks = absurd lacks
  each_of (held ∷ others) code P lacks =
      is.so_too held code _ _ (λ it. each_of others code (λ its. P (it ∷ its))) lacks

  pub none_of : (held : List (Option Held)) (code : ℤ) (P : List X → Type 0)
      → (code ≡ pos 62) ⊎ OfHandles OfOne held code (λ its. ⊥)
      → (code ≡ pos 62) ⊎ OfHandles OfOne held code P
  none_of held code P (inl want) = inl want
  none_of held code P (inr lacks) = inr (each_of held code P lacks)

  -- All hold such things.
  pub all_of : (things : List X) (code : ℤ) (P : List X → Type 0) → P things
      → OfHandles OfOne (map (λ it. Some (held_in it)) things) code P
  all_of [] code P so = so
  all_of (it ∷ things) code P so = is.of_it it code _ (all_of things code (λ its. P (it ∷ its)) so)

  -- One in a list holds none.
  pub until : {Y T : Type 0} (ys : List Y) (ts : List T) (value_in : Y → Option Held)
      (thing_in : T → X) (i : ℕ) (y : Y) (code : ℤ) → i < length ys → y ≡ get_or ys i y
      → map value_in (take i ys) ≡ map (λ it. Some (held_in it)) (map thing_in ts)
      → OfOne (value_in y) code (λ it. ⊥) → OfHandles OfOne (map value_in ys) code (λ its. ⊥)
  until ys ts value_in thing_in i y code within at before lacks =
      let split : map value_in ys
      ≡ map value_in (take i ys) ++ value_in y ∷ map value_in (drop (i + 1) ys) =
      grind (arith, take-append-drop i ys, drop_more ys i y within, map-append) in
      rw (split, before) (first_without (map thing_in ts) (value_in y)
      (map value_in (drop (i + 1) ys)) code lacks)
