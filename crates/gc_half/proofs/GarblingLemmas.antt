-- Each lawful circuit has one garbling for any zero labels of the input wires.
use Rattle.gc_half.proofs.Names.{◌≡◌, ℕ, List, length, slice_get, Some, inl, inr, refl, sym, ◌∙◌, take_all, arith, slice_get_within, Gate, Netlist, IsLawful, IsSet, IsSetBefore, EachRead, and_count, Solves, IsLocal, agree, solution_solves, EachRead-map, IsSetBefore-more, RowPair, zero_rule, IsGarbling, rows_after}
use Rattle.gc_half.specs.Law.{HasOneGarbling, HasOneEvaluation}
use Rattle.gc_half.proofs.AndNumbers.{and_number-end}
use Rattle.gc_half.proofs.OneGateLemmas.{first_read-local, second_read-local}
use Rattle.gc_half.proofs.CircuitLaw.{active_local}
use Rattle.gc_half.proofs.RowLemmas.{length-rows_after, rows_after-at, rows-take}

module _ (hash : ℕ → ℕ → ℕ) (r : ℕ) where
  -- The zero label of the wire that a gate sets looks at the wires that it reads alone.
  pub zero_local : (c : Netlist) → IsLocal (zero_rule hash r c)
  zero_local c u v i g h =
      rw (first_read-local u v g.operation h, second_read-local u v g.operation h) refl

  -- A garbling is one at other zero labels too that are the same on the wires that are set.
  pub IsGarbling-same : (c : Netlist) → IsLawful c → (given u v : ℕ → ℕ) (rows : List RowPair)
      → ((w : ℕ) → IsSet c w → u w ≡ v w) →
      IsGarbling hash r c given u rows → IsGarbling hash r c given v rows
  IsGarbling-same c lawful given u v rows same garbling = record {
    labels = record {
      inputs = λ w h. sym (same w (inl h)) ∙ garbling.labels.inputs w h;
      gates = λ i g at.
          let set : IsSet c g.set =
          inr (i, slice_get_within c.gates i g at, record { gate = g; at = at; wire = refl }) in
          sym (same g.set set) ∙ garbling.labels.gates i g at ∙ zero_local c u v i g (reads i g at);
    };
    and_gates = λ i g a b at is.
        let read = rw is at (reads i g at) in
        rw (← read.0, ← read.1) (garbling.and_gates i g a b at is);
    row_count = garbling.row_count;
  }
    where
      reads : (i : ℕ) (g : Gate) → slice_get c.gates i ≡ Some g
          → EachRead (λ w. u w ≡ v w) g.operation
      reads i g at =
          EachRead-map (IsSetBefore c i) _ g.operation
          (λ w set. same w (IsSetBefore-more c i (length c.gates) w
          (omega (arith, slice_get_within c.gates i g at)) set)) (lawful.reads i g at)

  module _ (c : Netlist) (lawful : IsLawful c) (given : ℕ → ℕ) where
    -- Zero labels that meet the equations, and their rows, are a garbling.
    pub rows-garbling : (label : ℕ → ℕ) → Solves (zero_rule hash r c) c given label →
        IsGarbling hash r c given label (rows_after hash r c label (length c.gates))
    rows-garbling label solves = record {
      labels = solves;
      and_gates = λ i g a b at is.
          rows_after-at hash r c label _ i g a b (slice_get_within c.gates i g at) at is;
      row_count = length-rows_after hash r c label _ ∙ and_number-end c;
    }

    -- The rows of a garbling are those of its zero labels.
    garbling-rows : (label : ℕ → ℕ) (rows : List RowPair) → IsGarbling hash r c given label rows
        → rows ≡ rows_after hash r c label (length c.gates)
    garbling-rows label rows garbling =
        rw (and_number-end c, take_all (and_count c) rows (omega (arith, garbling.row_count)))
        at (rows-take hash r c label given rows garbling (length c.gates))

    pub one_garbling : HasOneGarbling hash r c given
    one_garbling = record {
      one = (_, (_, rows-garbling _ (solution_solves _ (zero_local c) c lawful given)));
      same_labels = λ u v p q f g. agree _ (zero_local c) c lawful given u v f.labels g.labels;
      same_rows = λ u v p q f g.
          let same = agree _ (zero_local c) c lawful given u v f.labels g.labels in
          garbling-rows v p (IsGarbling-same c lawful given u v p same f)
          ∙ sym (garbling-rows v q g);
    }

-- Any rows have one evaluation.
pub one_evaluation : (hash : ℕ → ℕ → ℕ) (c : Netlist) → IsLawful c → (rows : List RowPair)
    (given : ℕ → ℕ) → HasOneEvaluation hash c rows given
one_evaluation hash c lawful rows given = record {
  one = (_, solution_solves _ (active_local hash c rows) c lawful given);
  same_labels = agree _ (active_local hash c rows) c lawful given;
}
