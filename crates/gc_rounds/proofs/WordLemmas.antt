-- A bank's word after each kind of step.
use Rattle.std.proofs.Common.{◌≡◌, ℕ, ◌+◌, ◌*◌, ◌-◌, ◌%◌, ◌^◌, ◌<◌, arith}
use Rattle.std.specs.Int.Bits.{bit_or, or_add_and}
use Rattle.std.proofs.lemmas.Nat.Bits.{and_pow}
use Rattle.gc_rounds.specs.Words.{count_of, mark_of, round_of, open_word, shut_word}

pub record Parts (n c m r : ℕ) : Type 0 where
  pub count : count_of n ≡ c
  pub mark : mark_of n ≡ m
  pub round : round_of n ≡ r

pub parts : (n count mark round : ℕ) → count < 65536 → mark < 65536
    → n ≡ count + 65536 * mark + 4294967296 * round → Parts n count mark round
parts n count mark round c m e =
    record { count = omega arith; mark = omega arith; round = omega arith }

pub whole : (n : ℕ) → n ≡ count_of n + 65536 * mark_of n + 4294967296 * round_of n
whole n = omega arith

pub added : (n : ℕ) → n < 18446744073709551616 → count_of n < 65535
    → Parts ((n + 1) % 2 ^ 64) (count_of n + 1) (mark_of n) (round_of n)
added n small few = parts _ _ _ _ (omega arith) (omega arith) (omega (arith, whole n))

pub taken : (n : ℕ) → n < 18446744073709551616 → 0 < count_of n
    → Parts ((n + (2 ^ 64 - 1)) % 2 ^ 64) (count_of n - 1) (mark_of n) (round_of n)
taken n small some = parts _ _ _ _ (omega arith) (omega arith) (omega (arith, whole n))

pub opened : (r : ℕ) → Parts (open_word r) 0 0 r
opened r = parts _ _ _ _ (omega arith) (omega arith) (omega arith)

pub shut : (r : ℕ) → Parts (shut_word r) 0 1 r
shut r = parts _ _ _ _ (omega arith) (omega arith) (omega arith)

pub marked : (n : ℕ) → mark_of n < 2 → Parts (bit_or n 65536) (count_of n) 1 (round_of n)
marked n small = parts _ _ _ _ (omega arith) (omega arith)
    (omega (arith, whole n, or_add_and n 65536, and_pow n 16))
