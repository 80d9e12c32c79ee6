-- The tweaked hash of a label is its hash.
use Rattle.gc_half.proofs.Names.{◌≡◌, ℕ, List, [], ◌∷◌, ap, ◌∙◌, arith, length, map, slice_index_or, common_steps, label_of_bytes, bytes_of_label, hash}
use Rattle.gc_lanes.specs.Hash.{tweaked_hash}
use Rattle.gc_half.specs.Hash.{tweak_bytes}

-- It may be made as a number, from the label's number.
pub hash-is : (label tweak : ℕ) {number hashed made : ℕ} → made ≡ hashed
    → hashed ≡ tweaked_hash number tweak → number ≡ label → made ≡ hash label tweak
unfolding hash tweak_bytes tweaked_hash label_of_bytes bytes_of_label
hash-is label tweak from hashes of = from ∙ hashes ∙ ap (λ n. hash n tweak) of

-- what is mapped over a list of four, element by element
pub map-four : {A : Type 0} (f : A → ℕ) (inputs : List A) (u v w x : A) {e g h i : ℕ}
    → length inputs ≡ 4 → e ≡ f (slice_index_or inputs 0 u) → g ≡ f (slice_index_or inputs 1 v)
    → h ≡ f (slice_index_or inputs 2 w) → i ≡ f (slice_index_or inputs 3 x)
    → e ∷ g ∷ h ∷ i ∷ [] ≡ map f inputs
map-four f inputs u v w x n p q r s = grind (arith, common_steps)
