use Rattle.gc_kept.proofs.Names.{◌≡◌, ◌∙◌, ap, arith, on_ok_weaker, IfErr-weaker}
use Rattle.gc_audit.specs.Labels.{first_wire_of}
use Rattle.gc_kept.proofs.GarblerLemmas.{value-given}
use Rattle.gc_kept.proofs.PieceLemmas.{value-fits}
use Rattle.gc_kept.proofs.garbler.KeptGarbler.input_labels.Goals as goal

pub labels_of-labels-requires : goal.labels_of-labels-requires
labels_of-labels-requires c =
    let fits = value-fits c.self.inside.circuit.netlist.input_widths c.args.index
    c.in_ok-width.width c.in_ok-width.ensures.ok in
    let lawful = c.circuit.ensures.lawful.inputs_fit in
    grind arith

pub returns-clause-ok : goal.returns-clause-ok
returns-clause-ok c =
    let circuit = c.self.inside.circuit.netlist in
    let index = c.args.index in
    let width = c.in_ok-width.width in
    let at = c.in_ok-width.ensures.ok in
    let from : c.first_wire-from.result ≡ first_wire_of circuit index =
    c.first_wire-from.ensures ∙ ap (λ n. first_wire_of n index) c.circuit.ensures.same in
    rw (← c.self.view_is) (on_ok_weaker c.write_both.result (λ both. record {
      width = width;
      at = at;
      labels = c.labels_of-labels.result.now;
      given_are = λ given rows so.
          c.labels_of-labels.ensures.labels ∙ rw (from, c.zero_labels.ensures)
          (value-given circuit c.circuit.ensures.lawful given rows c.self.inside.garbler so
          (first_wire_of circuit index) width (value-fits circuit.input_widths index width at));
      both = rw (← c.offset.ensures) both;
    }) c.write_both.ensures.ok)

pub returns-clause-fault : goal.returns-clause-fault
returns-clause-fault c =
    rw (← c.self.view_is) (IfErr-weaker c.write_both.result _ _ (λ fault lacks. rw lacks.0 (
      c.in_ok-width.width,
      c.in_ok-width.ensures.ok,
      (rw c.labels_of-labels.ensures.count at lacks.1),
    )) c.write_both.ensures.fault)
