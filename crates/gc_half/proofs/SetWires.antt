-- Which wires are set, and the values of those that are not.
use Rattle.gc_half.proofs.Names.{◌≡◌, ◌≢◌, ℕ, zero, suc, ◌⊎◌, inl, inr, ⊎_elim, length, slice_get, Some, refl, sym, subst, arith, nat_tests, gets, slice_get_cases, Gate, Netlist, IsSetBy, IsSetBefore, IsSet, IsSetBefore-more, cases_eq, values_after, ◌+◌}

module _ (c : Netlist) (w : ℕ) where
  -- Where it is not set after gate n, the gate sets another wire, and it was not set before.
  pub not_set_yet : (n : ℕ) (g : Gate) → slice_get c.gates n ≡ Some g
      → ¬ IsSetBefore c (n + 1) w → (w ≢ g.set) × ¬ IsSetBefore c n w
  not_set_yet n g at unset = (
    λ same. unset (inr (n, omega arith, record { gate = g; at = at; wire = sym same })),
    λ set. unset (IsSetBefore-more c n (n + 1) w (omega arith) set),
  )

  -- the last of n + 1 gates set w, or w was set before
  pub last_or_before : (n : ℕ) → IsSetBefore c (suc n) w → IsSetBefore c n w ⊎ IsSetBy c w n
  last_or_before n (inl input) = inl (inl input)
  last_or_before n (inr (i, below, by)) =
      ⊎_elim (λ e. inr (subst (IsSetBy c w) e by))
      (λ (other : i ≢ n). inl (inr (i, omega arith, by))) (cases_eq i n)

  -- Gate n sets w or it does not.
  by_gate : (n : ℕ) → IsSetBy c w n ⊎ ¬ IsSetBy c w n
  by_gate n = elim (slice_get_cases c.gates n).1 [
    | inl (g, _, at, _) ↦
        ⊎_elim (λ e. inl (record { gate = g; at = at; wire = e }))
        (λ other. inr (λ by. other (cc (by.at, by.wire)))) (cases_eq g.set w)
    | inr (_, none) ↦ inr (λ by. cc (by.at))
  ]

  set_or_not_before : (n : ℕ) → IsSetBefore c n w ⊎ ¬ IsSetBefore c n w
  set_or_not_before zero = grind arith
  set_or_not_before (suc n) =
      let more = IsSetBefore-more c n (suc n) w in
      grind (arith, by_gate n, last_or_before n, more, set_or_not_before n)

  -- A wire is set or it is not.
  pub set_or_not : IsSet c w ⊎ ¬ IsSet c w
  set_or_not = set_or_not_before (length c.gates)

module _ {A : Type 0} (rule : (ℕ → A) → ℕ → Gate → A) (c : Netlist) (given : ℕ → A) (w : ℕ) where
  -- A wire that is not set keeps the value that was given.
  pub not_set_before : (n : ℕ) → ¬ IsSetBefore c n w → values_after rule c given n w ≡ given w
  unfolding values_after
  not_set_before zero unset = refl
  not_set_before (suc n) unset =
      let before = not_set_before n
      (λ set. unset (IsSetBefore-more c n (suc n) w (omega arith) set)) in
      let others : (g : Gate) → slice_get c.gates n ≡ Some g → w ≢ g.set =
      λ g at e. unset (inr (n, omega arith, record { gate = g; at = at; wire = sym e })) in
      grind (arith, nat_tests, gets, before, others)
