-- The law of a garbled circuit: on each wire that is set the active label stands for the wire's bit, and the outputs
-- decode to the bits of the output wires.
use Rattle.gc_half.proofs.Names.{◌≡◌, ℕ, zero, suc, ◌+◌, ◌-◌, ◌<◌, ◌≤◌, Bool, true, List, map, refl, sym, arith, get_or_from_slice_get, Operation, And, Netlist, output_wires, IsLawful, and_number, IsLocal, agree, colour, RowPair, zero_of, rows_of, IsGarbling, range_with_len, bit_of, IsAssignment, active_of, active_rule, IsEvaluation, encode, decode, Decodes, length, active_after, AreActiveFrom, solution, solution_solves, slice_index, hash, numbered_from, values_after}
use Rattle.gc_half.proofs.OneGateLemmas.{first_read-local, second_read-local}
use Rattle.gc_half.proofs.HalfGateLaw.{and_law, colour-encode, sums}

-- The active label of the wire that a gate sets looks at the wires that it reads alone.
pub active_local : (hash : ℕ → ℕ → ℕ) (c : Netlist) (rows : List RowPair)
    → IsLocal (active_rule hash c rows)
active_local hash c rows u v i g h =
    rw (first_read-local u v g.operation h, second_read-local u v g.operation h) refl

module _ (first : ℕ) (c : Netlist) (rows : List RowPair) (inputs labels : List ℕ) where
  -- Before the first gate the labels are the given ones,
  pub active-start : labels ≡ map (slice_index inputs) (range_with_len 0 c.wires)
      → labels ≡ active_after first c rows inputs 0
  unfolding values_after
  active-start are = are

  -- and after the last gate they are those of an evaluation.
  pub active-end : IsLawful c → labels ≡ active_after first c rows inputs (length c.gates)
      → AreActiveFrom first c rows inputs labels
  active-end lawful are =
      let h = numbered_from first hash in
      record {
        active = solution (active_rule h c rows) c (slice_index inputs);
        evaluation = solution_solves _ (active_local h c rows) c lawful (slice_index inputs);
        table = are;
      }

-- A decode bit and the colour of the label that stands for a bit give the bit, and so for wires in a row.
decode-wires : (r : ℕ) → colour r ≡ true → (label active : ℕ → ℕ) (bits : ℕ → Bool)
    (first count : ℕ) → ((w : ℕ) → first ≤ w → w < first + count
    → active w ≡ encode r (label w) (bits w)) → let wires = range_with_len first count in
    decode (map colour (map label wires)) (map active wires) ≡ map bits wires
decode-wires r odd label active bits first zero h = refl
decode-wires r odd label active bits first (suc count) h =
    let rest = decode-wires r odd label active bits (first + 1) count
    (λ w low high. h w (omega arith) (omega arith)) in
    grind (arith, colour-encode r (label first), h first, rest)

module _ (hash : ℕ → ℕ → ℕ) (r : ℕ) (odd : colour r ≡ true) where
  -- The labels that stand for the bits meet the active-label equation of each operation.
  encode-operation : (label : ℕ → ℕ) (bits : ℕ → Bool) (k : ℕ) (row : RowPair) (op : Operation) →
      ((a b : ℕ) → op ≡ And a b → row ≡ rows_of hash r label k a b) →
      encode r (zero_of hash r label k op) (bit_of bits op) ≡ active_of hash
      (λ w. encode r (label w) (bits w)) k row op
  encode-operation label bits k row (And a b) h =
      rw (h a b refl) (sym (and_law hash k r (label a) (label b) (bits a) (bits b) odd))
  encode-operation label bits k row op h = grind sums

  module _ (c : Netlist) (lawful : IsLawful c) (given label : ℕ → ℕ) (rows : List RowPair)
      (garbling : IsGarbling hash r c given label rows)
      (input_bits bits : ℕ → Bool) (assignment : IsAssignment c input_bits bits) where
    -- So they are an evaluation,
    encode-evaluation : IsEvaluation hash c rows (λ w. encode r (given w) (input_bits w))
        (λ w. encode r (label w) (bits w))
    encode-evaluation = record {
      inputs = λ w h. rw (garbling.labels.inputs w h, assignment.inputs w h) refl;
      gates = λ i g at.
          rw (garbling.labels.gates i g at, assignment.gates i g at)
          (encode-operation label bits (and_number c i) _ g.operation
          (λ a b is. get_or_from_slice_get rows _ _ _ (garbling.and_gates i g a b at is)));
    }

    -- and any other agrees with it.
    pub garbling-decodes : (active : ℕ → ℕ)
        → IsEvaluation hash c rows (λ w. encode r (given w) (input_bits w)) active →
        Decodes c r label bits active
    garbling-decodes active evaluation =
        let local = active_local hash c rows in
        let labels = agree _ local c lawful _ _ _ evaluation encode-evaluation in
        record {
          labels = labels;
          outputs =
              decode-wires r odd label active bits (c.wires - output_wires c) (output_wires c)
              (λ w low high. let fit = lawful.outputs_fit in
              labels w (lawful.outputs_set w (omega arith) (omega arith)));
        }
