-- Lists that are gone through element by element.
use Rattle.gc_file.proofs.Names.{◌≡◌, ℕ, zero, suc, ◌+◌, ◌<◌, List, ◌++◌, length, take, drop, map, flat_map, get_or, append-nil, append_assoc, refl, arith, range_with_len, take_more, take-append-drop, flat_map-append}

-- What is made of the first elements, and of one element more,
pub flat_map-step : {X A : Type 0} (f : X → List A) (xs : List X) {i : ℕ} {x : X} {made : List A}
    → i < length xs → x ≡ get_or xs i x → made ≡ f x
    → flat_map f (take i xs) ++ made ≡ flat_map f (take (i + 1) xs)
flat_map-step f xs {i} {x} within at is =
    rw (is, take_more xs i x within, ← at, flat_map-append, append-nil) refl

-- and of the rest.
pub flat_map-rest : {X A : Type 0} (f : X → List A) (xs : List X) (i : ℕ)
    → flat_map f (take i xs) ++ flat_map f (drop i xs) ≡ flat_map f xs
flat_map-rest f xs i = rw (← flat_map-append, take-append-drop) refl

-- What is made of the numbers of a range, and of those of the range after it.
pub flat_map-ranges : {X A : Type 0} (b : X → List A) (f : ℕ → X) (a m n j k : ℕ) → j ≡ a + m
    → k ≡ m + n →
    flat_map b (map f (range_with_len a m)) ++ flat_map b (map f (range_with_len j n))
    ≡ flat_map b (map f (range_with_len a k))
flat_map-ranges b f a zero n j k at all =
    let begins : j ≡ a = omega arith in let ends : k ≡ n = omega arith in rw (begins, ends) refl
flat_map-ranges b f a (suc m) n j k at all =
    let more : k ≡ suc (m + n) = omega arith in
    rw (more, append_assoc, flat_map-ranges b f (a + 1) m n j (m + n) (omega arith) refl) refl
