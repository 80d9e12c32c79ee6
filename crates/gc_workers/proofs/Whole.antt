-- Workers that were lent out as a slice.
use Rattle.std.proofs.Common.{◌≡◌, ℕ, List, ◌++◌, length, take, drop, arith}
use Rattle.std.proofs.lemmas.Grind.{common_steps}

pub whole_back : {X : Type 0} (n : ℕ) (old new : List X) → length new ≡ length old → n ≡ length old
    → take n (new ++ drop (length new) old) ≡ new
whole_back n old new same whole = grind (arith, common_steps)
