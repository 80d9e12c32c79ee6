use Rattle.gc_kept.proofs.Names.{ap, GarblingWith, on_ok_weaker, IfErr-weaker}
use Rattle.gc_kept.proofs.garbling.KeptGarbling.input_labels.Goals as goal

pub returns-clause-ok : goal.returns-clause-ok
returns-clause-ok c =
    on_ok_weaker c.write_both.result (λ both. record {
      width = c.in_ok-width.width;
      at = (rw c.circuit.ensures.netlist at c.in_ok-width.ensures.ok);
      both = both;
    })
    (rw (c.input_zero_labels.ensures.labels, ap (λ (g : GarblingWith). g.offset) c.self.view_is)
    at c.write_both.ensures.ok)

pub returns-clause-fault : goal.returns-clause-fault
returns-clause-fault c =
    IfErr-weaker c.write_both.result _ _ (λ fault lacks. rw lacks.0 (
      c.in_ok-width.width,
      (rw c.circuit.ensures.netlist at c.in_ok-width.ensures.ok),
      (rw c.input_zero_labels.ensures.count at lacks.1),
    )) c.write_both.ensures.fault
