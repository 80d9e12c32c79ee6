-- How many gates pass a test, gate after gate.
use Rattle.gc_audit.proofs.Names.{◌≡◌, ℕ, ◌+◌, Bool, List, slice_get, Some, ap, arith, count_by, take, cases_Bool, slice_get_within, get_or_from_slice_get, Gate, one_if}
use Rattle.std.proofs.lemmas.List.Sums.{count_by_more_yes, count_by_more_no}

-- one more gate
pub count_more : (gates : List Gate) (i : ℕ) (g : Gate) → slice_get gates i ≡ Some g
    → (p : Gate → Bool) (n m : ℕ) → n ≡ count_by p (take i gates) → m ≡ n + one_if (p g)
    → m ≡ count_by p (take (i + 1) gates)
count_more gates i g at p n m before more =
    let within = slice_get_within gates i g at in
    let same = ap p (get_or_from_slice_get gates i g g at) in
    grind (arith, cases_Bool (p g), count_by_more_yes p gates i g, count_by_more_no p gates i g)
