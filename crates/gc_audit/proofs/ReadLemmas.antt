-- Which wires gates read, gate after gate.
use Rattle.gc_audit.proofs.Names.{◌≡◌, ℕ, ◌+◌, ◌<◌, ◌≤◌, ◌||◌, ◌++◌, Bool, false, List, length, map, slice_get, slice_index_or, Some, ap, ◌∙◌, arith, take, take_all, range_with_len, fill_by_all, slice_get_within, get_or_from_slice_get, Gate, reads, is_read}
use Rattle.std.proofs.lemmas.Grind.{common_steps}
use Rattle.std.proofs.lemmas.List.Folds.{list_any_more}

-- one more gate
pub is_read-more : (gates : List Gate) (i : ℕ) (g : Gate) (w : ℕ) → slice_get gates i ≡ Some g →
    (is_read (take i gates) w || reads g.operation w) ≡ is_read (take (i + 1) gates) w
is_read-more gates i g w at =
    let read = λ (x : Gate). reads x.operation w in
    rw (
      list_any_more read gates i g (slice_get_within gates i g at),
      get_or_from_slice_get gates i g g at,
    )

-- A slice that was written back into its vector.
pub written_back : (n : ℕ) (new rest : List Bool) → length new ≡ n → take n (new ++ rest) ≡ new
written_back n new rest long = grind (arith, common_steps)

-- all gates
pub is_read-all : (gates : List Gate) (i n : ℕ) (read : List Bool) → length gates ≤ i
    → length read ≡ n →
    ((w : ℕ) → w < n → slice_index_or read w false ≡ is_read (take i gates) w) →
    read ≡ map (is_read gates) (range_with_len 0 n)
is_read-all gates i n read all long each =
    fill_by_all (is_read gates) read n false long
    (λ w below. each w below ∙ ap (λ l. is_read l w) (take_all i gates all))
