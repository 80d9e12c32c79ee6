-- Elements of the front of a list.
use Rattle.gc_job.proofs.Names.{◌≡◌, ℕ, zero, suc, ◌<◌, List, [], ◌∷◌, take, slice_get, Some, refl, sym, ◌∙◌, length-take, arith, slice_get_within}

pub slice_get-take : {X : Type 0} (n k : ℕ) (xs : List X) → k < n
    → slice_get (take n xs) k ≡ slice_get xs k
slice_get-take zero k xs h = absurd (omega arith)
slice_get-take (suc n) k [] h = refl
slice_get-take (suc n) zero (x ∷ xs) h = refl
slice_get-take (suc n) (suc k) (x ∷ xs) h = slice_get-take n k xs (omega arith)

-- An element of the front is in the front, and in the list.
pub slice_get_taken : {X : Type 0} (n k : ℕ) (xs : List X) (x : X)
    → slice_get (take n xs) k ≡ Some x
    → (k < n) × (slice_get xs k ≡ Some x)
slice_get_taken n k xs x h =
    let below : k < n = omega (arith, slice_get_within (take n xs) k x h, length-take n xs) in
    (below, sym (slice_get-take n k xs below) ∙ h)
