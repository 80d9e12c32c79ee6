-- A sink in memory.
use Rattle.std.specs.Prelude.{ℕ, ◌-◌, min, List, Option, Some, None}

-- What it holds: the bytes taken, the limit of their number if there is one, and the number of failures.
pub record MemSinkState : Type 0 where
  pub bytes : List ℕ
  pub limit : Option ℕ
  pub failures : ℕ

-- How many of `count` bytes still fit under the limit, where `held` bytes are held.
abbrev pub fitting : Option ℕ → ℕ → ℕ → ℕ
fitting (Some limit) held count = min count (limit - held)
fitting None held count = count
