-- Lines of the canonical text, as they are written.
use Rattle.gc_circuit.proofs.Names.{◌≡◌, ℕ, ◌<◌, ◌≤◌, ◌^◌, ◌++◌, List, [], ◌∷◌, length, map, take, drop, append_assoc, append-nil, decimal, refl, sym, ap, ◌∙◌, arith, flat_map, join_with_byte, drop_all, take_all, Number, Name, words_of_widths, written, line}
use Rattle.std.specs.Fmt.{digits}
use Rattle.std.proofs.lemmas.Fmt.{length-decimal-le}

-- A number of 32 bits has at most ten digits.
pub short_decimal : (n : ℕ) → n < 2 ^ 32 → length (decimal n) ≤ 10
short_decimal n small = length-decimal-le 10 n (omega arith) (omega arith) (omega arith)

-- The numbers of a line after its first one, each after a space
abbrev pub numbers_after : List ℕ → List ℕ
numbers_after = flat_map (λ n. 32 ∷ decimal n)

join-numbers : (first : List ℕ) (ns : List ℕ) →
    join_with_byte 32 (first ∷ map written (map Number ns)) ≡ first ++ numbers_after ns
join-numbers first [] = sym (append-nil first)
join-numbers first (n ∷ ns) = ap (λ t. first ++ (32 ∷ t)) (join-numbers (decimal n) ns)

-- The line of a side's widths: their number, each of them after a space, and the line's end.
pub line-widths : (widths : List ℕ) →
    line (words_of_widths widths) ≡ (decimal (length widths) ++ numbers_after widths) ++ 10 ∷ []
line-widths widths = ap (λ t. t ++ 10 ∷ []) (join-numbers (decimal (length widths)) widths)

-- The last piece of a side's line
pub widths_done : (text widths : List ℕ) (i : ℕ) → length widths ≤ i →
    ((text ++ decimal (length widths)) ++ numbers_after (take i widths)) ++ 10 ∷ []
    ≡ text ++ line (words_of_widths widths)
widths_done text widths i done =
    rw (take_all i widths done, line-widths widths) (simp append_assoc)

-- The line of a gate before what follows it
pub line_of_one : (read set : ℕ) (name after : List ℕ) →
    line (Number 1 ∷ Number 1 ∷ Number read ∷ Number set ∷ Name name ∷ []) ++ after
    ≡ 49 ∷ 32 ∷ 49 ∷ 32 ∷ (decimal read ++ 32 ∷ (decimal set ++ 32 ∷ (name ++ 10 ∷ after)))
unfolding digits
line_of_one read set name after = simp append_assoc refl

pub line_of_two : (first second set : ℕ) (name after : List ℕ) →
    line (Number 2 ∷ Number 1 ∷ Number first ∷ Number second ∷ Number set ∷ Name name ∷ []) ++ after
    ≡ 50 ∷ 32 ∷ 49 ∷ 32 ∷ (decimal first
    ++ 32 ∷ (decimal second ++ 32 ∷ (decimal set ++ 32 ∷ (name ++ 10 ∷ after))))
unfolding digits
line_of_two first second set name after = simp append_assoc refl

-- Digits at the end of the room
pub digits_last : (n : ℕ) (digits room : List ℕ) → length room ≤ n → digits ++ drop n room ≡ digits
digits_last n digits room full = ap (λ t. digits ++ t) (drop_all n room full) ∙ append-nil digits
