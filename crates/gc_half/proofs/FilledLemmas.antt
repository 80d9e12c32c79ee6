-- A table that is filled in part.
use Rattle.std.proofs.Common.{◌≡◌, ℕ, ◌+◌, ◌-◌, ◌<◌, ◌≤◌, List, ◌++◌, length, set, replicate, refl, sym, ap, ◌∙◌, arith, length-append, append_assoc}
use Rattle.std.proofs.Math.ListN.{length-replicate}
use Rattle.std.proofs.lemmas.List.{replicate-append-replicate, set-append_left}

module _ {T : Type 0} (xs : List T) (u : T) where
  -- filling it further changes no entry
  pub filled_further : (n m len : ℕ) → n ≤ m → m ≤ len
      → (xs ++ replicate (m - n) u) ++ replicate (len - m) u ≡ xs ++ replicate (len - n) u
  filled_further n m len more within =
      let sum : (m - n) + (len - m) ≡ len - n = omega arith in
      rw (append_assoc, replicate-append-replicate, sum) refl

  -- an entry that is set among those filled is set in the table
  pub set_filled : (rest : ℕ) (all : List T) (i : ℕ) (entry : T) → i < length xs
      → xs ++ replicate rest u ≡ all
      → set xs i entry ++ replicate rest u ≡ set all i entry
  set_filled rest all i entry within is =
      sym (set-append_left xs (replicate rest u) i entry within) ∙ ap (λ l. set l i entry) is

-- the entries of a table that was filled up to place m
pub filled_up : {T : Type 0} (xs ys all : List T) (u : T) (n m k len : ℕ) → n ≤ m → m ≤ len
    → ys ≡ xs ++ replicate (m - n) u → k ≡ m → xs ++ replicate (len - n) u ≡ all
    → ys ++ replicate (len - k) u ≡ all
filled_up xs ys all u n m k len more within ys_are k_is is =
    rw (ys_are, k_is, filled_further xs u n m len more within) is

-- the table has as many entries as it was opened for
pub filled_length : {T : Type 0} (xs all : List T) (u : T) (n len : ℕ) → n ≡ length xs → n ≤ len
    → xs ++ replicate (len - n) u ≡ all → length all ≡ len
filled_length xs all u n len count fits is =
    let total = ap length (sym is) ∙ length-append xs (replicate (len - n) u) in
    let rest = length-replicate (len - n) u in
    omega (arith, total, rest, count, fits)
