-- Where two lists first differ.
use Rattle.std.specs.Prelude.{◌≡◌, ◌≢◌, ℕ, List, take, slice_get}

-- The lists first differ at this place: they are the same before it, and different there.
pub record DifferFirstAt {A : Type 0} (xs ys : List A) (place : ℕ) : Type 0 where
  pub before : take place xs ≡ take place ys
  pub there : slice_get xs place ≢ slice_get ys place
