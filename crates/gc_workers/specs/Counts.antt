-- Sums over lists.
use Rattle.std.specs.Prelude.{ℕ, ◌+◌, List, [], ◌∷◌, ◌==◌, if◌then◌else◌}

-- the sum of a number over a list
abbrev pub total : {A : Type 0} → (A → ℕ) → List A → ℕ
total f [] = 0
total f (x ∷ xs) = f x + total f xs

-- 1 where the two numbers are the same, and else 0
abbrev pub only : ℕ → ℕ → ℕ
only x y = if x == y then 1 else 0
