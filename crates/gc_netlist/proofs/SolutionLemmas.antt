-- Values that meet a local rule at each gate agree on the wires that are set, and they exist.
use Rattle.gc_netlist.proofs.CommonNames.{◌≡◌, ◌≢◌, ℕ, zero, suc, ◌≤◌, inl, inr, length, slice_get, Some, None, Option, refl, sym, ap, ◌∙◌, arith, cases_lt, nat_tests, slice_get_within, Operation, Gate, Netlist, EachRead, IsSetBefore, IsSet, IsLawful}
use Rattle.gc_netlist.specs.Solution.{Solves, IsLocal, put_gate, values_after}

-- what is so of each wire, under P
pub EachRead-map : (P Q : ℕ → Type 0) (op : Operation) → ((w : ℕ) → P w → Q w) → EachRead P op →
    EachRead Q op
EachRead-map P Q op f h = grind arith

pub IsSetBefore-more : (c : Netlist) (m n w : ℕ) → m ≤ n → IsSetBefore c m w → IsSetBefore c n w
IsSetBefore-more c m n w h (inl input) = inl input
IsSetBefore-more c m n w h (inr (i, below, set)) = inr (i, omega arith, set)

module _ {A : Type 0} (rule : (ℕ → A) → ℕ → Gate → A) (local : IsLocal rule) (c : Netlist)
    (lawful : IsLawful c) where
  agree_before : (given u v : ℕ → A) → Solves rule c given u → Solves rule c given v → (n w : ℕ)
      → IsSetBefore c n w → u w ≡ v w
  agree_before given u v p q n w (inl input) = p.inputs w input ∙ sym (q.inputs w input)
  agree_before given u v p q zero w (inr (i, below, set)) = absurd (omega arith)
  agree_before given u v p q (suc n) w (inr (i, below, set)) =
      ap u (sym set.wire) ∙ p.gates i set.gate set.at
      ∙ local u v i set.gate (EachRead-map (IsSetBefore c i) (λ x. u x ≡ v x) set.gate.operation
      (λ x h. agree_before given u v p q n x (IsSetBefore-more c i n x (omega arith) h))
      (lawful.reads i set.gate set.at))
      ∙ sym (q.gates i set.gate set.at) ∙ ap v set.wire

  -- there is one solution on the wires that are set
  pub agree : (given u v : ℕ → A) → Solves rule c given u → Solves rule c given v → (w : ℕ)
      → IsSet c w → u w ≡ v w
  agree given u v p q w h = agree_before given u v p q (length c.gates) w h

module _ {A : Type 0} (rule : (ℕ → A) → ℕ → Gate → A) (local : IsLocal rule) (c : Netlist)
    (lawful : IsLawful c) (given : ℕ → A) where
  put_gate-other : (n w : ℕ) (v : ℕ → A) (o : Option Gate) →
      ((g : Gate) → o ≡ Some g → w ≢ g.set) → put_gate rule v n o w ≡ v w
  put_gate-other n w v None other = refl
  put_gate-other n w v (Some g) other = let ne = other g refl in grind (arith, nat_tests)

  -- a wire that is set keeps its value
  pub after-keeps : (m n w : ℕ) → m ≤ n → IsSetBefore c m w
      → values_after rule c given n w ≡ values_after rule c given m w
  unfolding values_after
  after-keeps m zero w below set = let e : m ≡ zero = omega arith in rw e refl
  after-keeps m (suc n) w below set =
      elim (cases_lt n m) [
        | inl above ↦ let e : m ≡ suc n = omega arith in rw e refl
        | inr h ↦
            let before = IsSetBefore-more c m n w h set in
            put_gate-other n w (values_after rule c given n) (slice_get c.gates n)
            (λ g at same. lawful.sets_once n g at (rw (← same) before)) ∙ after-keeps m n w h set
      ]

  -- a wire that is not set keeps what is given
  pub after-unset : (n w : ℕ) → (IsSetBefore c n w → ⊥) → values_after rule c given n w ≡ given w
  unfolding values_after
  after-unset zero w unset = refl
  after-unset (suc n) w unset =
      put_gate-other n w (values_after rule c given n) (slice_get c.gates n) (λ g at same.
      unset (inr (n, omega arith, record { gate = g; at = at; wire = sym same })))
      ∙ after-unset n w (λ set. unset (IsSetBefore-more c n (suc n) w (omega arith) set))

  -- what is computed gate by gate meets the rule at all gates at once
  pub solution_solves : Solves rule c given (values_after rule c given (length c.gates))
  unfolding values_after
  solution_solves = record {
    inputs = λ w h. after-keeps zero (length c.gates) w (omega arith) (inl h);
    gates = λ i g at.
        let within = slice_get_within c.gates i g at in
        let here : values_after rule c given (suc i) g.set
        ≡ rule (values_after rule c given i) i g = rw at (grind (arith, nat_tests)) in
        after-keeps (suc i) (length c.gates) g.set (omega arith)
        (inr (i, omega arith, record { gate = g; at = at; wire = refl }))
        ∙ here ∙ local _ _ i g (EachRead-map (IsSetBefore c i) _ g.operation
        (λ w set. sym (after-keeps i (length c.gates) w (omega arith) set)) (lawful.reads i g at));
  }
