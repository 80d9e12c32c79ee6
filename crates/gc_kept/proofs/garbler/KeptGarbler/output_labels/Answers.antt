use Rattle.gc_kept.proofs.Names.{◌∙◌, take, refl, ap, arith, sum, and_count, on_ok_weaker, IfErr-weaker}
use Rattle.gc_kept.proofs.GarblerLemmas.{value-made}
use Rattle.gc_kept.proofs.PieceLemmas.{value-fits}
use Rattle.gc_kept.proofs.garbler.KeptGarbler.output_labels.Goals as goal

pub labels_of-labels-requires : goal.labels_of-labels-requires
labels_of-labels-requires c =
    let fits = value-fits c.self.inside.circuit.netlist.output_widths c.args.index
    c.in_ok-width.width c.in_ok-width.ensures.ok in
    grind arith

pub returns-clause-ok : goal.returns-clause-ok
returns-clause-ok c =
    let circuit = c.self.inside.circuit.netlist in
    let width = c.in_ok-width.width in
    let same = c.circuit-circuit.ensures.same in
    let from = c.sum_of-from.ensures
    ∙ ap (λ ws. sum (take c.args.index ws)) (rw same at c.output_widths.ensures) in
    rw (← c.self.view_is) (on_ok_weaker c.write_both.result (λ both. record {
      whole = c.is_whole.ensures.0 (rw c.if-not-is_whole.false refl) ∙ ap and_count same;
      width = width;
      at = c.in_ok-width.ensures.ok;
      labels = c.labels_of-labels.result.now;
      made_are = λ all makes.
          c.labels_of-labels.ensures.labels ∙ rw from
          (value-made circuit all c.output_zero_labels.result.now width c.args.index
          makes.garbled.wires makes.garbled.outputs
          ((rw same at c.output_zero_labels.ensures.labels)
          makes.given makes.rows makes.so_far all makes.garbled));
      both = rw (← c.offset.ensures) both;
    }) c.write_both.ensures.ok)

pub returns-clause-fault : goal.returns-clause-fault
returns-clause-fault c =
    let width = c.in_ok-width in
    rw (← c.self.view_is) (IfErr-weaker c.write_both.result _ _ (λ fault lacks. rw lacks.0 (
      c.is_whole.ensures.0 (rw c.if-not-is_whole.false refl)
          ∙ ap and_count c.circuit-circuit.ensures.same,
      (width.width, width.ensures.ok, rw c.labels_of-labels.ensures.count at lacks.1),
    )) c.write_both.ensures.fault)
