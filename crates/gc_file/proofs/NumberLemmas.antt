-- Whole numbers in files.
use Rattle.gc_file.proofs.Names.{◌≡◌, ℕ, ◌+◌, ◌^◌, ◌<◌, ◌≤◌, inl, inr, List, ◌++◌, length, take, drop, get_or, ap, ◌∙◌, length-drop, arith, cases_lt, drop-append-le, drop_at, get_or-take, get_or-drop, get_or_past, length-take-le, number_bytes, u32_at}
use Rattle.std.proofs.lemmas.Nat.{le_bytes_4}
use Rattle.byteorder.specs.Endian.{little_bytes, little_number}
use Rattle.byteorder.specs.Numbers.{little_number-reads_back, little_from-append, little_from-lt, length-bytes_low_first}

-- A number stays the same whatever follows.
pub u32_at-append : (place : ℕ) (xs ys : List ℕ) → place + 4 ≤ length xs
    → u32_at place (xs ++ ys) ≡ u32_at place xs
unfolding u32_at
u32_at-append place xs ys within =
    ap (little_number 4) (drop-append-le place xs ys (omega arith))
    ∙ little_from-append 4 (drop place xs) ys (omega (arith, length-drop place xs))

pub length-number_bytes : (n : ℕ) → length (number_bytes n) ≡ 4
unfolding number_bytes
length-number_bytes n = length-bytes_low_first 0 4 n

-- The number whose bytes are at a place is read there.
pub u32_at-number_bytes : (place n : ℕ) (before after : List ℕ) → length before ≡ place
    → n < 2 ^ 32
    → u32_at place (before ++ (number_bytes n ++ after)) ≡ n
unfolding u32_at number_bytes
u32_at-number_bytes place n before after at fits =
    ap (little_number 4) (drop_at before (little_bytes 4 n ++ after) place at)
    ∙ little_number-reads_back 4 n after fits

-- The bytes of a number that was read are those that it was read from.
pub number_bytes-u32_at : (place : ℕ) (bytes : List ℕ) → place + 4 ≤ length bytes
    → ((i : ℕ) → get_or bytes i 0 < 256)
    → number_bytes (u32_at place bytes) ≡ take 4 (drop place bytes)
unfolding u32_at number_bytes
number_bytes-u32_at place bytes within small =
    let xs = drop place bytes in
    let long = length-take-le 4 xs (omega (arith, length-drop place bytes)) in
    le_bytes_4 (take 4 xs) (little_number 4 xs) long
    (λ i. elim (cases_lt i 4) [
      | inl below ↦ rw (get_or-take 4 xs i 0 below, get_or-drop place bytes i 0) (small (place + i))
      | inr past ↦ rw (get_or_past (take 4 xs) i 0 (omega (arith, long))) (omega arith)
    ]) (omega (arith, get_or-take {A = ℕ}))

-- A number that was read fits into its four bytes.
pub u32_at-lt : (place : ℕ) (bytes : List ℕ) → ((i : ℕ) → get_or bytes i 0 < 256)
    → u32_at place bytes < 2 ^ 32
unfolding u32_at
u32_at-lt place bytes small =
    let fits = little_from-lt 0 4 (drop place bytes)
    (λ i. rw (get_or-drop place bytes i 0) (small (place + i))) in
    omega arith
