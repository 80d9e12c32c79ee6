-- AND numbers, gate after gate.
use Rattle.gc_half.proofs.Names.{◌≡◌, ℕ, suc, ◌+◌, ◌<◌, ◌≤◌, true, false, cond, length, slice_get, Some, length-take, arith, take_all, gets, Gate, Netlist, is_and, and_number, and_count}
use Rattle.std.proofs.lemmas.List.Sums.{count_by_more_yes, count_by_more_no, count_by-le-length, sum_by-take-le}

module _ (c : Netlist) where
  pub and_number-and : (i : ℕ) (g : Gate) → slice_get c.gates i ≡ Some g
      → is_and g.operation ≡ true → and_number c (suc i) ≡ and_number c i + 1
  and_number-and i g at h =
      grind (arith, gets, count_by_more_yes (λ (x : Gate). is_and x.operation) c.gates i g)

  pub and_number-other : (i : ℕ) (g : Gate) → slice_get c.gates i ≡ Some g
      → is_and g.operation ≡ false → and_number c (suc i) ≡ and_number c i
  and_number-other i g at h =
      grind (arith, gets, count_by_more_no (λ (x : Gate). is_and x.operation) c.gates i g)

  -- An AND gate's number is below the number of AND gates.
  pub and_number-below : (i : ℕ) (g : Gate) → slice_get c.gates i ≡ Some g
      → is_and g.operation ≡ true → and_number c i < and_count c
  and_number-below i g at and =
      let next = and_number-and i g at and in
      omega (arith, sum_by-take-le (λ (x : Gate). cond (is_and x.operation) 1 0) c.gates (suc i))

  -- All gates passed, all AND gates are counted.
  pub and_number-end : and_number c (length c.gates) ≡ and_count c
  and_number-end = grind (arith, take_all)

  -- An AND number is at most the number of gates before.
  pub and_number-le : (i : ℕ) → and_number c i ≤ i
  and_number-le i = grind (arith, count_by-le-length, length-take)
