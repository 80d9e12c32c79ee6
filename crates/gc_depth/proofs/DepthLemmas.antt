-- Gates in order of depth read only wires that are set before them.
use Rattle.gc_depth.proofs.Names.{common_steps, ◌≡◌, ℕ, zero, suc, ◌+◌, ◌*◌, ◌<◌, ◌≤◌, ◌==◌, ◌++◌, ◌⊎◌, inl, inr, List, [], ◌∷◌, length, get_or, take, slice_get, Some, Bool, true, false, not, cond, refl, ap, arith, append_assoc, add-one, from_bool, AllByRecursion, Contains, cases_lt, cases_eq, nat_tests, gets, slice_get_within, slice_get-get_or, append-nil, take-append-le, length-append, length-take, take-length, take-append_seam, Contains-append_left, Contains-append_right, filter_more, Gate, Netlist, is_and, input_wires, EachRead, IsSetBefore, IsLawful, IsLocal, EachRead-map, solution_solves, with_gates, and_depth_of, and_depth_rule, AreAndDepths, and_depths, rank_of, rank_in, IsByDepth, IsReordering, of_rank, by_rank}
use Rattle.gc_netlist.specs.declared.gate.Operation.{Operation}
use Rattle.gc_depth.proofs.RankLemmas.{permuted, nondecreasing}
use Rattle.gc_depth.proofs.ReorderLemmas.{contains_at, at_contains, contains_filter, none, reordered_lawful, solves_too}

depth_of_local : (u v : ℕ → ℕ) (op : Operation) → EachRead (λ w. u w ≡ v w) op →
    and_depth_of u op ≡ and_depth_of v op
depth_of_local u v op h = grind arith

pub depth_local : IsLocal and_depth_rule
depth_local u v i g h = depth_of_local u v g.operation h

pub depths_are : (c : Netlist) → IsLawful c → AreAndDepths c (and_depths c)
depths_are c lawful = solution_solves and_depth_rule depth_local c lawful (λ _. 0)

pub from_bool-le : (b : Bool) → from_bool b ≤ 1
from_bool-le b = grind arith

-- what is so of each wire, under two facts
EachRead-both : (P Q R : ℕ → Type 0) (op : Operation) → ((w : ℕ) → P w → Q w → R w) →
    EachRead P op → EachRead Q op → EachRead R op
EachRead-both P Q R op f h k = grind arith

-- The gate that sets a wire has at most the rank of one that reads it.
rank_read : (depth : ℕ → ℕ) (op : Operation) →
    EachRead (λ w. 2 * depth w + 1 ≤ rank_of depth op) op
rank_read depth op = grind arith

module _ (c : Netlist) (lawful : IsLawful c) where
  abbrev r : Gate → ℕ
  r = rank_in c

  rank_of_setter : (j : ℕ) (g : Gate) (w n : ℕ) → slice_get c.gates j ≡ Some g → g.set ≡ w →
      2 * and_depths c w + 1 ≤ n → r g ≤ n
  rank_of_setter j g w n at sets low =
      let e = (depths_are c lawful).gates j g at in
      let f = ap (and_depths c) sets in
      let few : from_bool (not (is_and g.operation)) ≤ 1 = from_bool-le (not (is_and g.operation)) in
      omega (arith, e, f, low, few)

  -- The wire is an input wire, or one of these gates sets it.
  abbrev IsSetIn : List Gate → ℕ → Type 0
  IsSetIn gates w = (w < input_wires c) ⊎ ((g : Gate) × Contains gates g × (g.set ≡ w))

  abbrev ReadsBefore : List Gate → Type 0
  ReadsBefore gates = (p : ℕ) (h : Gate) → slice_get gates p ≡ Some h →
      EachRead (IsSetIn (take p gates)) h.operation

  last_is : (gates : List Gate) (h g : Gate) → slice_get (gates ++ h ∷ []) (length gates) ≡ Some g →
      h ≡ g
  last_is gates h g at = grind (arith, common_steps, gets)

  reads_more : (gates : List Gate) (h : Gate) → ReadsBefore gates →
      EachRead (IsSetIn gates) h.operation → ReadsBefore (gates ++ h ∷ [])
  reads_more gates h before reads p g at = elim (cases_lt p (length gates)) [
    | inl first ↦
        let there : slice_get gates p ≡ Some g = grind (arith, common_steps, gets) in
        rw (take-append-le p gates (h ∷ []) (omega arith)) (before p g there)
    | inr last ↦
        let within = slice_get_within (gates ++ h ∷ []) p g at in
        let here : p ≡ length gates = omega (arith, within, length-append gates (h ∷ [])) in
        let same : h ≡ g = last_is gates h g (rw here at at) in
        rw (here, take-append_seam gates (h ∷ []), ← same) reads
  ]

  -- A gate of rank k at most is among those of lower ranks, or among those of rank k.
  contains_level : (k : ℕ) (gates : List Gate) (g : Gate) → r g ≤ k → Contains gates g →
      (r g < k → Contains (by_rank r k c.gates) g) →
      Contains (by_rank r k c.gates ++ of_rank r k gates) g
  contains_level k gates g up here lower = elim (cases_lt (r g) k) [
    | inl low ↦ Contains-append_left (by_rank r k c.gates) (of_rank r k gates) g (lower low)
    | inr high ↦
        let level : (r g == k) ≡ true = grind (arith, nat_tests) in
        Contains-append_right (by_rank r k c.gates) (of_rank r k gates) g
        (contains_filter (λ x. r x == k) gates g level here)
  ]

  contains_by_rank : (n : ℕ) (g : Gate) → r g < n → Contains c.gates g →
      Contains (by_rank r n c.gates) g
  contains_by_rank zero g below h = absurd (omega arith)
  contains_by_rank (suc n) g below h =
      contains_level n c.gates g (omega arith) h (λ low. contains_by_rank n g low h)

  -- A wire that a gate reads is among those that gates of lower ranks set, and gates of its rank before it.
  set_in : (k i : ℕ) (h : Gate) → slice_get c.gates i ≡ Some h → r h ≡ k → (w : ℕ) →
      IsSetBefore c i w → 2 * and_depths c w + 1 ≤ r h →
      IsSetIn (by_rank r k c.gates ++ of_rank r k (take i c.gates)) w
  set_in k i h at is w (inl input) low = inl input
  set_in k i h at is w (inr (j, below, by)) low =
      let g = by.gate in
      let up : r g ≤ k = omega (arith, is, rank_of_setter j g w (r h) by.at by.wire low) in
      let there : slice_get (take i c.gates) j ≡ Some g =
      grind (arith, common_steps, gets, by.at) in
      let inside = contains_level k (take i c.gates) g up (contains_at (take i c.gates) j g there)
      (λ low. contains_by_rank k g low (contains_at c.gates j g by.at)) in
      inr (g, inside, by.wire)

  level_reads : (k i : ℕ) → i ≤ length c.gates → ReadsBefore (by_rank r k c.gates) →
      ReadsBefore (by_rank r k c.gates ++ of_rank r k (take i c.gates))
  level_reads k zero fits before = rw (append-nil (by_rank r k c.gates)) before
  level_reads k (suc i) fits before =
      let h = get_or c.gates i none in
      let at : slice_get c.gates i ≡ Some h = slice_get-get_or c.gates i none (omega arith) in
      let front = by_rank r k c.gates in
      let level = of_rank r k (take i c.gates) in
      let so_far = level_reads k i (omega arith) before in
      let more : of_rank r k (take (suc i) c.gates) ≡ level ++ cond (r h == k) (h ∷ []) [] =
      rw add-one at (filter_more (λ x. r x == k) c.gates i none (omega arith)) in
      rw more (elim (cases_eq (r h) k) [
        | inl same ↦
            let e : (r h == k) ≡ true = grind (arith, nat_tests) in
            rw (e, ← append_assoc front level (h ∷ [])) (reads_more (front ++ level) h so_far
            (EachRead-both (IsSetBefore c i)
            (λ w. 2 * and_depths c w + 1 ≤ r h)
            (IsSetIn (front ++ level)) h.operation (set_in k i h at same) (lawful.reads i h at)
            (rank_read (and_depths c) h.operation)))
        | inr other ↦
            let e : (r h == k) ≡ false = grind (arith, nat_tests) in
            rw (e, append-nil level) so_far
      ])

  by_rank_reads : (n : ℕ) → ReadsBefore (by_rank r n c.gates)
  by_rank_reads zero = λ p h at. let within = slice_get_within [] p h at in absurd (omega arith)
  by_rank_reads (suc n) =
      let whole = take-length c.gates in
      rw whole at (level_reads n (length c.gates) (omega arith) (by_rank_reads n))

  -- a wire that is set in this sense is set in the other
  set_before : (gates : List Gate) (p w : ℕ) → IsSetIn (take p gates) w →
      IsSetBefore (with_gates c gates) p w
  set_before gates p w (inl input) = inl input
  set_before gates p w (inr (g, inside, sets)) =
      let (q, at) = at_contains (take p gates) g inside in
      let within = slice_get_within (take p gates) q g at in
      let there : slice_get gates q ≡ Some g = grind (arith, common_steps, gets, at) in
      inr (
        q,
        omega (arith, within, length-take p gates),
        record { gate = g; at = there; wire = sets },
      )

  module _ (n : ℕ) (low : AllByRecursion (λ g. r g < n) c.gates) where
    abbrev gates : List Gate
    gates = by_rank r n c.gates

    -- The gates in order of rank make a lawful circuit.
    pub by_rank_lawful : IsLawful (with_gates c gates)
    by_rank_lawful = reordered_lawful c lawful gates (permuted r n c.gates low) (λ p h at.
        EachRead-map (IsSetIn (take p gates)) (IsSetBefore (with_gates c gates) p) h.operation
        (set_before gates p) (by_rank_reads n p h at))

    pub by_rank_reorders : IsReordering c (with_gates c gates)
    by_rank_reorders = record {
      wires = refl;
      input_widths = refl;
      output_widths = refl;
      gates = permuted r n c.gates low;
    }

    -- They are in order of depth.
    pub by_rank_by_depth : IsByDepth (with_gates c gates)
    by_rank_by_depth = record {
      depth = and_depths c;
      depths = solves_too and_depth_rule (λ v i j g. refl) c (with_gates c gates) by_rank_reorders
          (λ _. 0) (and_depths c) (depths_are c lawful);
      in_order = nondecreasing r n c.gates;
    }
