-- A source in memory.
use Rattle.std.specs.Prelude.{ℕ, ◌-◌, min, List, Option, Some, None}

-- What it has: the bytes that are left, how many of them it gives before it fails if there is a limit, and the number
-- of failures.
pub record MemSourceState : Type 0 where
  pub left : List ℕ
  pub limit : Option ℕ
  pub failures : ℕ

-- The number of bytes that it gives, for a given number of bytes left and a given room.
abbrev pub given : Option ℕ → ℕ → ℕ → ℕ
given (Some limit) left room = min (min left room) limit
given None left room = min left room

-- The limit after n bytes were given.
abbrev pub limit_after : Option ℕ → ℕ → Option ℕ
limit_after (Some limit) n = Some (limit - n)
limit_after None n = None
