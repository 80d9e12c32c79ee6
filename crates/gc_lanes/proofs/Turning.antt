-- Vectors word by word.
use Rattle.gc_lanes.proofs.Names.{◌≡◌, ℕ, ◌/◌, ◌%◌, ◌^◌, ◌<◌, List, [], ◌∷◌, length, get_or, map, arith, below_more, below_none, common_steps, low_words}

-- what holds of each number below eight
pub below_eight : (P : ℕ → Type 0) → P 0 → P 1 → P 2 → P 3 → P 4 → P 5 → P 6 → P 7
    → (j : ℕ) → j < 8 → P j
below_eight P a b c d e f g h =
    let low = below_more P 2 (below_more P 1 (below_more P 0 (below_none P) a) b) c in
    let high = below_more P 5 (below_more P 4 (below_more P 3 low d) e) f in
    below_more P 7 (below_more P 6 high g) h

-- What a function has of each of four vectors is a column.
pub column-is : (f : List ℕ → ℕ) (words : List (List ℕ)) → length words ≡ 4
    → f (get_or words 0 []) ∷ f (get_or words 1 []) ∷ f (get_or words 2 [])
    ∷ f (get_or words 3 []) ∷ [] ≡ map f words
column-is f words n = grind (arith, common_steps)

-- The words of a label are words.
pub low_words-fit : (label : ℕ)
    → label % 2 ^ 32 % 2 ^ 32 ∷ label / 2 ^ 32 % 2 ^ 32 % 2 ^ 32 ∷ label / 2 ^ 64 % 2 ^ 32 % 2 ^ 32
    ∷ label / 2 ^ 96 % 2 ^ 32 % 2 ^ 32 ∷ [] ≡ low_words label
low_words-fit label = grind arith

-- What a function has of each of eight vectors is a list of eight.
pub eight-map : (f : List ℕ → ℕ) (words : List (List ℕ)) → length words ≡ 8
    → f (get_or words 0 []) ∷ f (get_or words 1 []) ∷ f (get_or words 2 [])
    ∷ f (get_or words 3 []) ∷ f (get_or words 4 []) ∷ f (get_or words 5 [])
    ∷ f (get_or words 6 []) ∷ f (get_or words 7 []) ∷ [] ≡ map f words
eight-map f words n = grind (arith, common_steps)
