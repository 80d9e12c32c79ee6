-- What the operations of a vector of words are in each of its lanes.
use Rattle.gc_lanes.proofs.Names.{◌≡◌, ℕ, ◌<◌, ◌%◌, ◌^◌, List, length, map, ap, ◌∙◌, arith, get_or-map, Each1-get_or, get_or-zip2, w32, lane}
use Rattle.std.specs.Simd.Lanes.{zip2, Each1}
use mir.Val.{Fits}
use native.Mathlib.Nat.{mod-eq_of_lt}

-- these are n words
abbrev pub AreWords : ℕ → List ℕ → Type 0
AreWords n v = (length v ≡ n) × Each1 (Fits w32) v

-- an operation that gives a word of each word
pub lane-map : (f : ℕ → ℕ) → ((x : ℕ) → x < 2 ^ 32 → f x < 2 ^ 32) → (n : ℕ) (v : List ℕ)
    → AreWords n v → (j : ℕ) → j < n → lane (map f v) j ≡ f (lane v j)
lane-map f gives n v words j lt =
    let fits = (Each1-get_or (Fits w32) v j 0 (omega arith) words.1).fits in
    rw (get_or-map f v j 0 0 (omega arith), mod-eq_of_lt fits, mod-eq_of_lt (gives _ fits))

-- an operation on two numbers whose low 32 bits come from theirs
pub lane-zip2 : (f : ℕ → ℕ → ℕ) → ((x y : ℕ) → f x y % 2 ^ 32 ≡ f (x % 2 ^ 32) (y % 2 ^ 32))
    → (n : ℕ) (v w : List ℕ) → length v ≡ n → length w ≡ n
    → (j : ℕ) → j < n → lane (zip2 f v w) j ≡ f (lane v j) (lane w j)
lane-zip2 f low n v w lv lw j lt =
    ap (λ (x : ℕ). x % 2 ^ 32) (get_or-zip2 f v w j 0 0 0 (omega arith) (omega arith)) ∙ low _ _
