-- A source over a reader.
use Rattle.std.specs.Prelude.{ℕ}

-- The reader, and the number of failures.
pub record Inlet (R : Type 0) : Type 0 where
  pub reader : R
  pub failures : ℕ
