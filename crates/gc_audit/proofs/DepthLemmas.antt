-- Depths of wires, gate after gate.
use Rattle.gc_audit.proofs.Names.{◌≡◌, ◌≢◌, ℕ, ◌+◌, ◌<◌, ◌≤◌, ◌⊎◌, inl, inr, max, List, length, map, set, replicate, get_or, slice_get, Some, refl, sym, ap, ◌∙◌, arith, cases_eq, cases_lt, get_or-set_same, get_or-set_other, length-replicate, get_or-replicate, get_or_past, fill_by_all, range_with_len, Gate, Netlist, IsSet, IsSetBefore, IsLawful, IsLocal, Solves, values_after, IsSetBefore-more, solution_solves, IsSetBefore-below, after-zero, read-table, and_depth_of, IsGreatest, depth_of, none_deep, depths_in, depths_rule}
use Rattle.gc_netlist.specs.declared.gate.Operation.{Operation}
use Rattle.gc_audit.specs.declared.depths.Depths.{Depths}

pub depths_local : IsLocal depths_rule
depths_local u v i g h = grind arith

-- A gate adds one at most.
pub depth_of-le : (depth : ℕ → ℕ) (op : Operation) (n : ℕ) → ((w : ℕ) → depth w ≤ n)
    → (depth_of depth op ≤ n + 1) × (and_depth_of depth op ≤ n + 1)
depth_of-le depth op n h = grind arith

-- The number is the greatest in the table of those of wires that the first i gates set, and at most i.
pub record IsDeepest (c : Netlist) (i : ℕ) (table : List Depths)
    (f : Depths → ℕ) (n : ℕ) : Type 0 where
  pub few : n ≤ i
  pub most : (w : ℕ) → f (depths_in table w) ≤ n
  pub reached : (n ≡ 0) ⊎ ((w : ℕ) × IsSetBefore c i w × (f (depths_in table w) ≡ n))

past : (k w : ℕ) → get_or (replicate k none_deep) w none_deep ≡ none_deep
past k w = grind (arith, get_or-replicate, get_or_past, length-replicate, cases_lt w k)

-- the start: no wire is deep
pub table_start : (c : Netlist) (n : ℕ) (table : List Depths) → n ≡ c.wires
    → table ≡ replicate n none_deep →
    table ≡ map (values_after depths_rule c (λ w. none_deep) 0) (range_with_len 0 c.wires)
table_start c n table wires is =
    rw (is, after-zero depths_rule c (λ w. none_deep))
    (fill_by_all (λ w. none_deep) (replicate n none_deep) c.wires none_deep
    (length-replicate n none_deep ∙ wires) (λ w below. past n w))

pub deepest_start : (c : Netlist) (n : ℕ) (table : List Depths) (f : Depths → ℕ) → f none_deep ≡ 0 →
    table ≡ replicate n none_deep → IsDeepest c 0 table f 0
deepest_start c n table f at is = record {
  few = omega arith;
  most = λ w. omega (arith, ap (λ t. f (depths_in t w)) is, ap f (past n w), at);
  reached = inl refl;
}

-- one more gate
module _ (c : Netlist) (lawful : IsLawful c) (i : ℕ) (g : Gate) (at : slice_get c.gates i ≡ Some g)
    (table : List Depths) (place : g.set < length table) (f : Depths → ℕ) (d : Depths) where
  at_set : f (depths_in (set table g.set d) g.set) ≡ f d
  at_set = ap f (get_or-set_same table g.set d none_deep place)

  at_other : (w : ℕ) → w ≢ g.set → f (depths_in (set table g.set d) w) ≡ f (depths_in table w)
  at_other w other = ap f (get_or-set_other table g.set w d none_deep other)

  most_more : (n m : ℕ) → IsDeepest c i table f n → m ≡ max n (f d) → (w : ℕ) →
      f (depths_in (set table g.set d) w) ≤ m
  most_more n m h is w = grind (arith, cases_eq w g.set, at_set, at_other w, h.most w)

  reached_before : (n m : ℕ) → (n ≡ 0) ⊎ ((w : ℕ) × IsSetBefore c i w × (f (depths_in table w) ≡ n))
      → m ≡ n →
      (m ≡ 0) ⊎ ((w : ℕ) × IsSetBefore c (i + 1) w × (f (depths_in (set table g.set d) w) ≡ m))
  reached_before n m (inl none) is = inl (is ∙ none)
  reached_before n m (inr (w, before, deep)) is =
      let other : w ≢ g.set = λ same. lawful.sets_once i g at (rw (← same) before) in
      inr (w, IsSetBefore-more c i (i + 1) w (omega arith) before, at_other w other ∙ deep ∙ sym is)

  pub deepest_more : (n m : ℕ) → IsDeepest c i table f n → f d ≤ n + 1 → m ≡ max n (f d) →
      IsDeepest c (i + 1) (set table g.set d) f m
  deepest_more n m h near is = record {
    few = omega arith;
    most = most_more n m h is;
    reached = elim (cases_lt n (f d)) [
      | inl deeper ↦ inr (
        g.set,
        inr (i, omega arith, record { gate = g; at = at; wire = refl }),
        at_set ∙ omega arith,
      )
      | inr not_deeper ↦ reached_before n m h.reached (omega arith)
    ];
  }

-- all gates
module _ (c : Netlist) (lawful : IsLawful c) (i : ℕ) (table : List Depths) (f : Depths → ℕ)
    (whole : i ≡ length c.gates)
    (is : table ≡ map (values_after depths_rule c (λ w. none_deep) i)
    (range_with_len 0 c.wires)) where
  on : ℕ → Depths
  on = values_after depths_rule c (λ w. none_deep) i

  solves : Solves depths_rule c (λ w. none_deep) on
  unfolding on
  solves = rw whole (solution_solves depths_rule depths_local c lawful (λ w. none_deep))

  in_table : (w : ℕ) → IsSet c w → f (depths_in table w) ≡ f (on w)
  unfolding on
  in_table w set =
      rw (is, read-table on c.wires w none_deep (IsSetBefore-below c lawful (length c.gates) w set))

  reached_all : (n : ℕ) → (n ≡ 0) ⊎ ((w : ℕ) × IsSetBefore c i w × (f (depths_in table w) ≡ n)) →
      (n ≡ 0) ⊎ ((w : ℕ) × IsSet c w × (f (on w) ≡ n))
  reached_all n (inl none) = inl none
  reached_all n (inr (w, before, deep)) =
      let set : IsSet c w = IsSetBefore-more c i (length c.gates) w (omega arith) before in
      inr (w, set, sym (in_table w set) ∙ deep)

  pub deepest_all : (rule : (ℕ → ℕ) → ℕ → Gate → ℕ) → f none_deep ≡ 0 →
      ((values : ℕ → Depths) (k : ℕ) (g : Gate)
      → f (depths_rule values k g) ≡ rule (λ w. f (values w)) k g) →
      (n : ℕ) → IsDeepest c i table f n → IsGreatest rule c n
  deepest_all rule none same n h = record {
    depths = λ w. f (on w);
    solve = record {
      inputs = λ w input. ap f (solves.inputs w input) ∙ none;
      gates = λ k g at. ap f (solves.gates k g at) ∙ same on k g;
    };
    most = λ w set. omega (arith, in_table w set, h.most w);
    reached = reached_all n h.reached;
  }
