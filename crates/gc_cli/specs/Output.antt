-- What was printed on an output.
use Rattle.std.specs.Prelude.{ℕ, List, Option}

-- The bytes that it holds, where they are known, and how many calls to print on it have failed.
pub record Printed : Type 0 where
  pub contents : Option (List ℕ)
  pub failures : ℕ
