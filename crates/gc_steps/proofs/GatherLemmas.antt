-- All seats of a list joined in one.
use Rattle.gc_steps.proofs.Names.{◌≡◌, ℕ, ◌+◌, List, [], ◌∷◌, ◌++◌, length, Some, arith, All, length-append, total, total-append, is_pair, pairs, Seen}
use Rattle.std.proofs.lemmas.List.Elements.{All-pop}
use Rattle.gc_rounds.specs.Steps.{merged}
use Rattle.gc_gates.specs.Steps.{joined}

module _ {X : Type 0} (old new : List X) (x : X) (is : old ≡ new ++ x ∷ []) where
  pub all_but_last : (P : X → Type 0) → All P old → All P new
  all_but_last P h = (All-pop P old new (Some x) is h).0

  pub all_last : (P : X → Type 0) → All P old → P x
  all_last P h = (All-pop P old new (Some x) is h).1

  pub total_last : (f : X → ℕ) → total f old ≡ total f new + f x
  total_last f = rw is (omega (arith, total-append f new (x ∷ [])))

  pub length_last : length old ≡ length new + 1
  length_last = rw is (length-append new (x ∷ []))

pub pairs_merged : {J : Type 0} (v w u : Seen J) (r g : ℕ) → u ≡ merged v w (joined v.inner w.inner)
    → pairs r g u.inner.made ≡ pairs r g v.inner.made + pairs r g w.inner.made
pairs_merged v w u r g e = rw e (total-append (is_pair r g) v.inner.made w.inner.made)
