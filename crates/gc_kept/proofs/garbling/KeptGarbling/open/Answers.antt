use Rattle.gc_kept.proofs.Names.{◌≡◌, ◌*◌, Some, length, refl, sym, ap, ◌∙◌, arith, slice_index, length-map, length-encoded_with, GarblingWith, first_output_of}
use Rattle.gc_kept.proofs.LabelFileLemmas.{dealt_from}
use Rattle.gc_kept.proofs.OpenLemmas.{length-are, wrong_among}
use Rattle.gc_kept.proofs.garbling.KeptGarbling.open.Goals as goal

pub returns-then-not-are_right-clause-fault : goal.returns-then-not-are_right-clause-fault
returns-then-not-are_right-clause-fault c =
    let g = c.args.self.now in
    let width = c.in_ok-width.width in
    let zeros = c.output_zero_labels-zero_labels in
    let long : length c.args.labels.now ≡ 16 * width = omega arith in
    let offset = ap (λ (g : GarblingWith). g.offset) c.self.view_is in (
      width,
      (rw c.circuit.ensures.netlist at c.in_ok-width.ensures.ok),
      long,
      c.in_ok-has_room.ensures.ok,
      (wrong_among g.offset g.garbling.zero_labels zeros.result.now
          (first_output_of g.circuit c.args.index) width c.args.labels.now zeros.ensures.labels long
          (rw offset at (c.are_right.ensures.wrong c.if-not-are_right.true))),
    )

pub returns-clause-ok : goal.returns-clause-ok
returns-clause-ok c =
    let g = c.args.self.now in
    let width = c.in_ok-width.width in
    let zeros = c.output_zero_labels-zero_labels in
    let offset = ap (λ (g : GarblingWith). g.offset) c.self.view_is in
    let found = rw offset at (c.are_right.ensures.right c.if-not-are_right.false) in
    let bits = found.0 in
    let count : length bits ≡ width = omega (
      arith,
      length-are c.args.labels.now _ found.1,
      length-encoded_with g.offset (slice_index zeros.result.now) 0 bits,
    ) in
    let put = c.put_bits.ensures g.offset bits c.law_coloured.ensures found.1 in
    let moved = dealt_from g.offset g.garbling.zero_labels zeros.result.now
    (first_output_of g.circuit c.args.index) bits (rw count zeros.ensures.labels) in
    record {
      bits = bits;
      width = (rw c.circuit.ensures.netlist at c.in_ok-width.ensures.ok) ∙ ap Some (sym count);
      labels_are = (rw moved at found.1);
      buffer = rw (put, length-map, count) refl;
    }
