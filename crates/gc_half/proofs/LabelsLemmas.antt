-- The law of labels: lists that stand for bits, from the law of a garbled circuit.
use Rattle.gc_half.proofs.Names.{◌≡◌, ℕ, ◌+◌, ◌-◌, ◌<◌, length, map, drop, get_or, slice_index, refl, sym, ap, ◌∙◌, arith, Netlist, output_wires, IsLawful, GarblingParts, length-map, common_steps, range_with_len, fill_by_all, length-map-range_with_len, get_or-map-range_with_len, on_outputs, table_end, IsGarbledFrom, hash, numbered_from, Decodes, output_zero_labels}
use Rattle.gc_half.specs.Joined.{LabelsLaw, TogetherLaw}
use Rattle.gc_half.proofs.CircuitLaw.{garbling-decodes}
use Rattle.gc_half.proofs.JoinedLemmas.{evaluation-same}

-- The value of an output.
at-output : {A : Type 0} (c : Netlist) (values : ℕ → A) (d : A) (i : ℕ) → i < output_wires c
    → get_or (on_outputs c values) i d ≡ values (c.wires - output_wires c + i)
at-output c values d i below =
    get_or-map-range_with_len values (c.wires - output_wires c) (output_wires c) i
    (c.wires - output_wires c + i) d below (omega arith)

module _ (r first : ℕ) (c : Netlist) (lawful : IsLawful c) (given : ℕ → ℕ) (g : GarblingParts)
    (is : IsGarbledFrom r given first c g) where
  -- The zero labels of the output wires are those of the garbling.
  pub output_zero_labels-are : output_zero_labels g ≡ on_outputs c (slice_index g.zero_labels)
  output_zero_labels-are =
      let table : g.zero_labels ≡ map (slice_index g.zero_labels) (range_with_len 0 c.wires) =
      fill_by_all (slice_index g.zero_labels) g.zero_labels c.wires 0 is.wires
      (λ w below. refl) in
      rw (is.wires, is.outputs)
      (ap (drop (c.wires - output_wires c)) table
      ∙ table_end (slice_index g.zero_labels) c.wires (output_wires c) lawful.outputs_fit)

pub labels-stand : LabelsLaw
labels-stand r odd c lawful zero_labels first g is bits fits inputs stand labels evaluated outputs
    are = (
      record {
        zero_count = rw (zero_are, are.last) (simp length-map);
        count = rw (evaluated.last, are.last) (simp length-map);
        each = λ i below.
            let inside : i < output_wires c = omega (arith, below, many) in
            rw (evaluated.last, zero_are, are.last) (simp at-output
            (decodes.labels _ (lawful.outputs_set _ (omega (arith, lawful.outputs_fit))
            (omega (arith, lawful.outputs_fit, inside)))));
      },
      rw (evaluated.last, zero_are) (decodes.outputs ∙ sym are.last),
    )
  where
    zero_are : output_zero_labels g ≡ on_outputs c (slice_index g.zero_labels)
    zero_are = output_zero_labels-are r first c lawful (slice_index zero_labels) g is

    many : length outputs ≡ output_wires c
    many = ap length are.last ∙ length-map-range_with_len are.bits _ (output_wires c)

    decodes : Decodes c r (slice_index g.zero_labels) are.bits evaluated.active
    decodes =
        garbling-decodes _ r odd c lawful _ _ _ is.garbling _ _ are.assignment _
        (evaluation-same (numbered_from first hash) c g.rows _ _ evaluated.active
        (λ w input. stand.each w (omega (arith, fits, input))) evaluated.evaluation)

pub together-stand : TogetherLaw
together-stand r zero_labels others bits other_bits labels other_labels stand other_stand = record {
  zero_count = grind (arith, common_steps, stand.zero_count, other_stand.zero_count);
  count = grind (arith, common_steps, stand.count, other_stand.count);
  each = λ i below. grind (
    arith,
    common_steps,
    stand.count,
    stand.zero_count,
    stand.each i,
    other_stand.each (i - length bits),
  );
}
