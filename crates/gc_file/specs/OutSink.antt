-- A sink over a writer.
use Rattle.std.specs.Prelude.{ℕ}

-- The writer, and the number of failures.
pub record Outlet (W : Type 0) : Type 0 where
  pub writer : W
  pub failures : ℕ
