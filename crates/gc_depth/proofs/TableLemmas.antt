-- Ranks from a table of depths.
use Rattle.gc_depth.proofs.Names.{common_steps, get_or-replicate, get_or_past, ◌≡◌, ℕ, ◌+◌, ◌*◌, ◌<◌, ◌≤◌, inl, inr, List, [], ◌∷◌, ◌++◌, max, length, map, set, take, replicate, get_or, slice_get, slice_index, Some, not, refl, sym, ap, ◌∙◌, arith, All, range_with_len, from_bool, cases_eq, nat_tests, get_or-set_same, get_or-set_other, length-replicate, map_more, All-nil, All-push, All-weaker, slice_get_within, get_or_from_slice_get, Gate, Netlist, is_and, IsSetBefore, IsLawful, values_after, EachRead-map, after-keeps, and_depth_of, and_depth_rule, and_depths, rank_in}
use Rattle.std.specs.Ordering.{ord_max, nat_cmp}
use Rattle.std.proofs.lemmas.List.FromFn.{fill_by_all}
use Rattle.gc_netlist.specs.declared.gate.Operation.{Operation}
use Rattle.gc_netlist.proofs.Tables.{read-table, table_step, length-table, after-zero, IsSetBefore-below}
use Rattle.gc_depth.proofs.DepthLemmas.{depth_local, from_bool-le}

-- A gate adds one at most.
depth_of-le : (depth : ℕ → ℕ) (op : Operation) (n : ℕ) → ((w : ℕ) → depth w ≤ n) →
    and_depth_of depth op ≤ n + 1
depth_of-le depth op n h = grind (arith, h)

-- What the table says of the wires that a gate reads stays so.
depth_now : (c : Netlist) → IsLawful c → (table : List ℕ) (i : ℕ) (g : Gate) →
    table ≡ map (values_after and_depth_rule c (λ _. 0) i) (range_with_len 0 c.wires) →
    slice_get c.gates i ≡ Some g →
    and_depth_of (slice_index table) g.operation ≡ and_depth_of (and_depths c) g.operation
depth_now c lawful table i g is at =
    let within = slice_get_within c.gates i g at in
    depth_local (slice_index table) (and_depths c) i g (EachRead-map (IsSetBefore c i) _ g.operation
    (λ w set. ap (λ t. get_or t w 0) is
    ∙ read-table (values_after and_depth_rule c (λ _. 0) i) c.wires w 0
    (IsSetBefore-below c lawful i w set)
    ∙ sym (after-keeps and_depth_rule depth_local c lawful (λ _. 0) i (length c.gates) w
    (omega arith) set)) (lawful.reads i g at))

-- After i gates: the depths on the wires, and the ranks of these gates, which are below the end.
pub record Ranked (c : Netlist) (i : ℕ) (table ranks : List ℕ) (end : ℕ) : Type 0 where
  pub depths : table ≡ map (values_after and_depth_rule c (λ _. 0) i) (range_with_len 0 c.wires)
  -- No wire is deeper than the gates are many.
  pub shallow : (w : ℕ) → slice_index table w ≤ i
  pub are : ranks ≡ map (rank_in c) (take i c.gates)
  pub below : All (λ k. k < end) ranks
  pub few : end ≤ 2 * i + 2

abbrev no_depth : ℕ
no_depth = 0

none_deep : (n w : ℕ) → get_or (replicate n no_depth) w 0 ≡ no_depth
none_deep n w = grind (arith, common_steps, get_or-replicate, get_or_past)

-- the start: no wire is deep
pub ranked_start : (c : Netlist) (n : ℕ) (table ranks : List ℕ) → n ≡ c.wires →
    table ≡ replicate n 0 → ranks ≡ [] → Ranked c 0 table ranks 0
ranked_start c n table ranks wires is none = rw (is, none) (record {
  depths = rw (after-zero and_depth_rule c (λ _. 0)) (fill_by_all (λ w. 0) (replicate n 0) c.wires 0
      (length-replicate n 0 ∙ wires) (λ w below. none_deep n w));
  shallow = λ w. omega (arith, none_deep n w);
  are = refl;
  below = All-nil (λ k. k < 0);
  few = omega arith;
})

max_is : (a b : ℕ) → ord_max nat_cmp a b ≡ max a b
max_is a b = grind (arith, nat_tests)

-- one more gate
module _ (c : Netlist) (lawful : IsLawful c) (i : ℕ) (table ranks : List ℕ) (end : ℕ)
    (h : Ranked c i table ranks end) (g : Gate) (at : slice_get c.gates i ≡ Some g) where
  pub set_inside : g.set < length table
  set_inside = omega (arith, length-table _ c.wires table h.depths, lawful.sets i g at)

  module _ (d n next : ℕ) (deep : d ≡ and_depth_of (slice_index table) g.operation)
      (odd : n ≡ from_bool (not (is_and g.operation)))
      (top : next ≡ ord_max nat_cmp end (2 * d + n + 1)) where
    few_more : d ≤ i + 1
    few_more = omega (arith, deep, depth_of-le (slice_index table) g.operation i h.shallow)

    end_more : next ≡ max end (2 * d + n + 1)
    end_more = top ∙ max_is end (2 * d + n + 1)

    rank_now : 2 * d + n ≡ rank_in c g
    rank_now = rw (odd, deep, depth_now c lawful table i g h.depths at) refl

    pub ranked_more : Ranked c (i + 1) (set table g.set d) (ranks ++ (2 * d + n) ∷ []) next
    ranked_more = record {
      depths = table_step and_depth_rule depth_local c lawful (λ _. 0) table i g 0 d h.depths at
          deep;
      shallow = λ w. elim (cases_eq w g.set) [
        | inl same ↦ rw same (omega (arith, get_or-set_same table g.set d 0 set_inside, few_more))
        | inr other ↦ omega (arith, get_or-set_other table g.set w d 0 other, h.shallow w)
      ];
      are = rw (h.are, rank_now) (sym (map_more (rank_in c) c.gates i g
          (slice_get_within c.gates i g at)
          ∙ ap (λ x. map (rank_in c) (take i c.gates) ++ rank_in c x ∷ [])
          (get_or_from_slice_get c.gates i g g at)));
      below = All-push (λ k. k < next) ranks (2 * d + n) (All-weaker (λ k. k < end) (λ k. k < next)
          (λ k low. omega (arith, end_more)) ranks h.below) (omega (arith, end_more));
      few = omega (arith, h.few, end_more, odd, from_bool-le (not (is_and g.operation)), few_more);
    }
